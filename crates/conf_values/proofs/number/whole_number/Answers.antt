use Rattle.std.proofs.Common.{◌≡◌, ◌+◌, ◌-◌, ◌*◌, ◌<◌, ◌≤◌, ◌^◌, length, true, false, get_or, take, refl, sym, ◌∙◌, ap, arith, Some}
use Rattle.std.specs.List.{list_all}
use Rattle.std.specs.Char.{is_ascii_digit}
use Rattle.std.proofs.lemmas.List.Folds.{list_all_at, list_all_more}
use Rattle.std.proofs.lemmas.Grind.{common_steps}
use Rattle.conf_values.specs.Numbers.{decimal}
use Rattle.conf_values.proofs.Numbers.{decimal_more, decimal_nil, not_digits, nothing, front_too_large, spelled}
use Rattle.conf_values.proofs.number.whole_number.Goals as goal

pub loop-digit-init : goal.loop-digit-init
loop-digit-init c = record { are_digits = refl; value_is = decimal_nil; fits = omega arith }

pub returns-then-not-is_ascii_digit : goal.returns-then-not-is_ascii_digit
returns-then-not-is_ascii_digit c =
    let other : is_ascii_digit (get_or c.args.text.now c.loop-digit.digit-index 0) ≡ false = grind (arith, common_steps) in
    not_digits c.args.text.now (list_all_at is_ascii_digit c.args.text.now c.loop-digit.digit-index 0 c.loop-digit-test.true other)

pub returns-in_err-checked_mul : goal.returns-in_err-checked_mul
returns-in_err-checked_mul c =
    let more = decimal_more c.args.text.now c.loop-digit.digit-index c.loop-digit-test.true in
    let front = c.loop-digit.invariant.value_is in
    let past : 2 ^ 64 ≤ 10 * c.loop-digit.value = omega (arith, c.in_err-checked_mul.ensures) in
    c.from_residual.ensures ∙ front_too_large c.args.text.now (c.loop-digit.digit-index + 1) (omega arith)

pub returns-in_err-value : goal.returns-in_err-value
returns-in_err-value c =
    let more = decimal_more c.args.text.now c.loop-digit.digit-index c.loop-digit-test.true in
    let front = c.loop-digit.invariant.value_is in
    let tens = c.in_ok-checked_mul.ensures.1 in
    let past : 2 ^ 64 ≤ c.in_ok-checked_mul.field-0 + c.from.result = omega (arith, c.in_err-value.ensures) in
    let added = c.from.ensures in
    c.from_residual-in_err-value.ensures ∙ front_too_large c.args.text.now (c.loop-digit.digit-index + 1) (omega arith)

pub loop-digit-preserved : goal.loop-digit-preserved
loop-digit-preserved c =
    let digit : is_ascii_digit (get_or c.args.text.now c.loop-digit.digit-index 0) ≡ true = grind (arith, common_steps) in
    record {
      are_digits = let e = list_all_more is_ascii_digit c.args.text.now c.loop-digit.digit-index 0 c.loop-digit-test.true in grind (arith, common_steps);
      value_is = decimal_more c.args.text.now c.loop-digit.digit-index c.loop-digit-test.true ∙ ap (λ n. 10 * n + (get_or c.args.text.now c.loop-digit.digit-index 0 - 48)) c.loop-digit.invariant.value_is ∙ (let a = c.in_ok-checked_mul.ensures.1 in let b = c.in_ok-value.ensures.1 in omega arith);
      fits = let b = c.in_ok-value.ensures in omega arith;
    }

pub returns-then-is_empty : goal.returns-then-is_empty
returns-then-is_empty c = nothing c.args.text.now (grind (arith, common_steps))

pub returns-else-is_empty : goal.returns-else-is_empty
returns-else-is_empty c =
    let whole : take c.loop-digit.digit-index c.args.text.now ≡ c.args.text.now = grind (arith, common_steps) in
    let value : decimal c.args.text.now ≡ c.loop-digit.value = sym (ap decimal whole) ∙ c.loop-digit.invariant.value_is in
    let some : 0 < length c.args.text.now = grind (arith, common_steps) in
    let small : decimal c.args.text.now < 2 ^ 64 = omega (arith, c.loop-digit.invariant.fits) in
    ap Some (sym value) ∙ spelled c.args.text.now some (sym (ap (list_all is_ascii_digit) whole) ∙ c.loop-digit.invariant.are_digits) small
