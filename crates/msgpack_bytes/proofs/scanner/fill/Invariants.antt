use Rattle.std.proofs.Common.{ℕ, List, ◌≡◌, ◌≤◌, length}
use Rattle.msgpack_bytes.specs.Steps.{BeginsSame}
use Rattle.msgpack_bytes.proofs.Alike.{Filled}
use Rattle.msgpack_bytes.proofs.scanner.fill.Given as goal

abbrev pub invariant-loop-k : goal.invariant-loop-k
invariant-loop-k l = record {
  size : length l.front ≡ 5;
  from : l.came ≤ l.k;
  filled : (part : List ℕ) → length part ≡ l.came → BeginsSame 5 l.fn.front part → Filled l.k l.front part l.follow;
}
