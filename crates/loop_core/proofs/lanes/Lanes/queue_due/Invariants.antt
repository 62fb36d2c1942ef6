use Rattle.std.proofs.Common.{ℕ, ◌≡◌, ◌<◌, false}
use Rattle.loop_core.specs.Lanes.{IsNoneDueAt, KeepsLanes}
use Rattle.loop_core.proofs.lanes.Lanes.queue_due.Given as goal

abbrev pub invariant-loop-at : goal.invariant-loop-at
invariant-loop-at g l = record {
  kept : KeepsLanes l.initial.self l.self;
  rest : l.self ≡ record l.initial.self { plans = l.self.plans; fault = l.self.fault; short = l.self.short };
  done : l.self.short ≡ false → (place : ℕ) → place < l.at → IsNoneDueAt place l.self.time l.self.plans;
}
