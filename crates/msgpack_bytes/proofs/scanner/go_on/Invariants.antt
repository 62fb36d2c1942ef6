use Rattle.std.proofs.Common.{List, ℕ, ◌+◌, ◌-◌, ◌*◌, length}
use Rattle.msgpack_bytes.specs.Going.{Stands}
use Rattle.msgpack_bytes.proofs.Standing.{place_of}
use Rattle.msgpack_bytes.proofs.scanner.go_on.Given as goal

abbrev pub invariant-loop-levels : goal.invariant-loop-levels
invariant-loop-levels l = record {
  seen : List ℕ;
  some : Stands seen l.piece l.front l.missing (place_of l.levels l.room l.came) l.at;
  each : (other : List ℕ) → Stands other l.piece l.front l.fn.missing l.fn.place 0 → Stands other l.piece l.front l.missing (place_of l.levels l.room l.came) l.at;
}

abbrev pub decreases-loop-levels : goal.decreases-loop-levels
decreases-loop-levels l = 2 * (length l.piece - l.at) + l.levels
