use Rattle.event_modes.proofs.Acked.{one_ack}
use Rattle.event_modes.proofs.acks.read_ack.Goals as goal

pub returns-clause-only : goal.returns-clause-only
returns-clause-only c = λ other q. one_ack c.args.bytes.now other c.read_front.result q c.read_front.ensures
