use Rattle.std.proofs.Common.{ℕ, List, [], ◌∷◌, length, ◌≡◌, ◌==◌, ◌<◌, true, false, arith}
use Rattle.msgpack_bytes.proofs.Alike.{told_whole}
use Rattle.msgpack_bytes.proofs.Innermost.{first_whole}
use Rattle.msgpack_bytes.proofs.whole.item_end.Goals as goal

not_empty : (xs : List ℕ) → false ≡ (length xs == 0) → 0 < length xs
not_empty [] e = absurd cc
not_empty (x ∷ xs) e = omega arith

pub returns-in-Scalar : goal.returns-in-Scalar
returns-in-Scalar c =
    let least = c.min-limit.ensures in
    let some = not_empty c.args.bytes.now c.if-is_empty.ensures in
    first_whole c.args.bytes.now c.in-Scalar.size (told_whole true c.args.bytes.now c.in-Scalar.size some c.in-Scalar.ensures.is (omega arith)) (omega arith)
