use Rattle.std.proofs.Common.{[], ◌∷◌, length, ap, arith}
use Rattle.event_modes.proofs.Begins.{array_one}
use Rattle.event_modes.proofs.entry.pair_of.Goals as goal

pub returns-in_err-items : goal.returns-in_err-items
returns-in_err-items c = rw c.from_residual.ensures (λ time fields a. c.in_err-items.ensures (time ∷ fields ∷ []) a)

pub returns-in_err-fields : goal.returns-in_err-fields
returns-in_err-fields c =
    let one = ap length c.in_ok-time.ensures.steps in
    let none = ap length c.in_err-fields.ensures.steps.0 in
    rw c.from_residual-in_err-fields.ensures
    (λ time fields a. let same = ap length (array_one (time ∷ fields ∷ []) c.in_ok-items.items c.args.entry.now a c.in_ok-items.ensures) in omega arith)

pub returns-then-len-gt0 : goal.returns-then-len-gt0
returns-then-len-gt0 c =
    let first = ap length c.in_ok-time.ensures.steps in
    let second = ap length c.in_ok-fields.ensures.steps in
    λ time fields a. let same = ap length (array_one (time ∷ fields ∷ []) c.in_ok-items.items c.args.entry.now a c.in_ok-items.ensures) in omega arith
