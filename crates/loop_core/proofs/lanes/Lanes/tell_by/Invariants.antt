use Rattle.std.proofs.Common.{◌≡◌}
use Rattle.loop_core.proofs.lanes.Lanes.tell_by.Given as goal

abbrev pub invariant-loop-at : goal.invariant-loop-at
invariant-loop-at g l = l.self ≡ l.initial.self
