use Rattle.std.proofs.Common.{arith}
use Rattle.event_modes.proofs.Aheads.{given_any}
use Rattle.event_modes.proofs.ahead.Ahead.restart.Goals as goal

pub returns-else-self-gt0 : goal.returns-else-self-gt0
returns-else-self-gt0 c = given_any _ c.requires.0 c.requires.1 (omega arith)
