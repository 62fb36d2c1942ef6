use Rattle.forward_core.proofs.Stepping.{stays}
use Rattle.forward_core.proofs.server.ServerSession.wait.Goals as goal

pub returns-clause-reads : goal.returns-clause-reads
returns-clause-reads g c = let s = stays c.args.self.now c.requires.over c.requires.may c.requires.begins in (s.0, s.1, s.2, cc)
