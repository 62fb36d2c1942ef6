use Rattle.std.proofs.Common.{◌≡◌, arith, sym, ◌∙◌}
use Rattle.std.proofs.lemmas.Fmt.{decimal_injective}
use Rattle.label_plan.proofs.name.relay_numeral.Goals as goal

pub returns-in-Err-clause-none : goal.returns-in-Err-clause-none
returns-in-Err-clause-none c = λ n small is.
    let same : n ≡ c.in-Some.number = decimal_injective n c.in-Some.number (omega arith) (omega arith) (is ∙ sym c.in-Some.ensures.digits) in
    c.in-Err.ensures (omega (arith, same))
