use Rattle.std.proofs.Common.{take}
use Rattle.mio_relay.proofs.Heaviest.{Counts}
use Rattle.mio_relay.proofs.holding.held_in.Given as goal

abbrev pub invariant-loop-slot : goal.invariant-loop-slot
invariant-loop-slot g l = Counts l.sum (take l.slot-index l.slots)
