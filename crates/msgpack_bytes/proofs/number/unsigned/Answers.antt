use Rattle.std.proofs.Common.{◌≡◌, arith, ◌∙◌, length, add-one}
use Rattle.msgpack_bytes.proofs.Numbers.{number_suc, number_all, pow_eight, pow_grows}
use Rattle.msgpack_bytes.proofs.number.unsigned.Goals as goal

pub overflow_mul-value : goal.overflow_mul-value
overflow_mul-value c = let bound = pow_eight c.loop-byte.byte-index (omega arith) in omega arith

pub loop-byte-preserved : goal.loop-byte-preserved
loop-byte-preserved c =
    let next = number_suc c.loop-byte.byte-index c.args.bytes.now in
    let grown = pow_grows c.loop-byte.byte-index in
    record { value = (rw add-one (omega arith)); small = omega arith }

pub returns : goal.returns
returns c =
    let same : c.loop-byte.byte-index ≡ length c.args.bytes.now = omega arith in
    let all = number_all c.args.bytes.now in
    let here = c.loop-byte.invariant.value in
    record { value = rw same at here ∙ all }
