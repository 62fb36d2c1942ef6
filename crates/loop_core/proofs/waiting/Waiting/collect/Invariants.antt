use Rattle.std.proofs.Common.{◌≡◌}
use Rattle.loop_core.proofs.waiting.Waiting.collect.Given as goal

abbrev pub invariant-loop-buffer : goal.invariant-loop-buffer
invariant-loop-buffer g l = (l.gathered.awaited ≡ l.initial.gathered.awaited) × (l.lanes ≡ l.initial.lanes)
