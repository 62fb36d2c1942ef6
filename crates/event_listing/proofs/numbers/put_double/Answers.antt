use Rattle.std.proofs.Common.{arith}
use Rattle.std.specs.Float.Ieee.{binary64}
use Rattle.std.proofs.lemmas.Float.{not_nan_f64_bits}
use Rattle.event_listing.proofs.Steps.{adds_float}
use Rattle.event_listing.proofs.numbers.put_double.Goals as goal

pub float_from_bits-value : goal.float_from_bits-value
float_from_bits-value g c = not_nan_f64_bits c.args.bits c.if-bits-gt-DOUBLE_MOST.false

pub returns-then-is_finite : goal.returns-then-is_finite
returns-then-is_finite g c =
    adds_float c.float.result binary64 _ _ c.args.bits c.args.writer.now c.float.new.self c.if-bits-gt-DOUBLE_MOST.false c.float.ensures.plain c.float.ensures.room.1.0
