use Rattle.std.proofs.Common.{arith}
use Rattle.msgpack_bytes.proofs.Numbers.{number_next, pow_four, pow_grows}
use Rattle.msgpack_bytes.proofs.number.number_at.Goals as goal

pub overflow_mul-value : goal.overflow_mul-value
overflow_mul-value c = let bound = pow_four c.loop-k.k (omega arith) in omega arith

pub overflow_add-value : goal.overflow_add-value
overflow_add-value c = let bound = pow_four c.loop-k.k (omega arith) in omega arith

pub loop-k-preserved : goal.loop-k-preserved
loop-k-preserved c =
    let next = number_next c.loop-k.k c.args.at c.args.bytes.now in
    let grown = pow_grows c.loop-k.k in
    record { value = omega arith; small = omega arith }
