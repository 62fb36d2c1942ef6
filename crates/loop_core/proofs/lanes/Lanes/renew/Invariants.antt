use Rattle.std.proofs.Common.{◌≡◌}
use Rattle.loop_core.specs.Lanes.{KeepsLanes}
use Rattle.loop_core.proofs.lanes.Lanes.renew.Given as goal

abbrev pub invariant-loop-at : goal.invariant-loop-at
invariant-loop-at g l = KeepsLanes l.initial.self l.self × (l.self ≡ record l.initial.self { fault = l.self.fault })
