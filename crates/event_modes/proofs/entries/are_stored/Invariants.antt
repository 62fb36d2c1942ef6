use Rattle.std.proofs.Common.{length}
use Rattle.event_modes.proofs.Again.{Counting}
use Rattle.event_modes.proofs.entries.are_stored.Given as goal

abbrev pub invariant-loop-rest : goal.invariant-loop-rest
invariant-loop-rest l = Counting l.fn.count l.bytes l.rest l.left

abbrev pub decreases-loop-rest : goal.decreases-loop-rest
decreases-loop-rest l = length l.rest
