use Rattle.std.proofs.Common.{◌-◌, ◌≤◌, length}
use Rattle.decode_bench.proofs.relaynet_scan_all.Given as goal

abbrev pub invariant-loop-at : goal.invariant-loop-at
invariant-loop-at l = (l.at ≤ length l.bytes) × (l.count ≤ l.at)

abbrev pub decreases-loop-at : goal.decreases-loop-at
decreases-loop-at l = length l.bytes - l.at
