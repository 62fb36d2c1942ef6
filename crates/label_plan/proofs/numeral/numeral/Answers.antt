use Rattle.std.proofs.Common.{◌≡◌, true, false, sym, ap, subst, ◌∙◌}
use Rattle.label_plan.specs.Reading.{can_begin}
use Rattle.label_plan.proofs.Numerals.{can_begin_decimal, decimal_parsed, parsed_decimal}
use Rattle.label_plan.proofs.numeral.numeral.Goals as goal

pub returns-then-not-can_begin-clause-none : goal.returns-then-not-can_begin-clause-none
returns-then-not-can_begin-clause-none c = λ n small is.
    let yes : can_begin c.args.text.now ≡ true = subst (λ text. can_begin text ≡ true) is (can_begin_decimal n small) in
    let no : can_begin c.args.text.now ≡ false = ap can_begin (sym c.as_bytes.ensures.value) ∙ sym c.can_begin.ensures ∙ c.if-not-can_begin.true in
    let clash : true ≡ false = sym yes ∙ no in absurd (cc)

pub returns-in-Ok-clause-digits : goal.returns-in-Ok-clause-digits
returns-in-Ok-clause-digits c =
    let yes : can_begin c.args.text.now ≡ true = ap can_begin (sym c.as_bytes.ensures.value) ∙ sym c.can_begin.ensures ∙ c.if-not-can_begin.false in
    parsed_decimal c.args.text.now c.in-Ok.number c.parse.result yes c.in-Ok.is c.parse.ensures.value.0

pub returns-in-Err-clause-none : goal.returns-in-Err-clause-none
returns-in-Err-clause-none c = λ n small is. decimal_parsed c.args.text.now n c.parse.result c.in-Err.field-0 small is c.parse.ensures.value.0 c.in-Err.is
