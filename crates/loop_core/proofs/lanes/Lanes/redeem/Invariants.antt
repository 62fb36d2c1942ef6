use Rattle.std.proofs.Common.{◌≡◌, ◌<◌, ◌≤◌}
use Rattle.relay_conf.specs.declared.output.BufferNo.{BufferNo}
use Rattle.loop_core.specs.Lanes.{AreRedeemedAt, IsUntouched, KeepsLanes}
use Rattle.loop_core.proofs.lanes.Lanes.redeem.Given as goal

abbrev pub invariant-loop-at : goal.invariant-loop-at
invariant-loop-at g l = record {
  kept : KeepsLanes l.initial.self l.self;
  plans : l.self.plans ≡ l.initial.self.plans;
  time : (l.self.time ≡ l.initial.self.time) × (l.self.short ≡ l.initial.self.short);
  done : (buffer : BufferNo) → buffer.0 < l.at → AreRedeemedAt buffer l.initial.self l.self;
  left : (buffer : BufferNo) → l.at ≤ buffer.0 → IsUntouched buffer l.initial.self l.self;
}
