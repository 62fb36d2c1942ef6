use Rattle.forward_core.specs.Server.{Awaiting, Greets, outcome_of}
use Rattle.forward_core.proofs.Stepping.{of_this}
use Rattle.forward_core.proofs.server_handshake.take_ping.Goals as goal

pub returns-in-None-clause-greets : goal.returns-in-None-clause-greets
returns-in-None-clause-greets g c =
    of_this c.wait_for_ping.result (λ server taken. Greets server c.args.bytes.now (outcome_of (Awaiting server) c.args.bytes.now taken)) c.args.server.now
    c.wait_for_ping.ensures.greets
