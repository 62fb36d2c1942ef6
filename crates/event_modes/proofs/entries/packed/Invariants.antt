use Rattle.std.proofs.Common.{length}
use Rattle.event_modes.proofs.Collected.{Packing}
use Rattle.event_modes.proofs.entries.packed.Given as goal

abbrev pub invariant-loop-rest : goal.invariant-loop-rest
invariant-loop-rest g l = Packing l.content l.rest l.entries

abbrev pub decreases-loop-rest : goal.decreases-loop-rest
decreases-loop-rest g l = length l.rest
