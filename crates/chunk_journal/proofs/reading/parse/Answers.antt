use Rattle.std.proofs.Common.{ap, sym, subst, ◌∙◌, option_map, arith}
use Rattle.std.specs.Int.{w64}
use Rattle.std.proofs.lemmas.List.{take_rest}
use Rattle.chunk_journal.specs.Fields.{beside, number_at}
use Rattle.chunk_journal.specs.Reading.{IsAppendOf}
use Rattle.chunk_journal.proofs.Appends.{kind_two_at, number_found}
use Rattle.chunk_journal.proofs.reading.parse.Goals as goal
use Rattle.chunk_journal.proofs.reading.parse.Goals.{in-1, in-3, in-4, in_default-kind}

pub returns-then-kind-eq-APPEND_KIND-clause-only : goal.returns-then-kind-eq-APPEND_KIND-clause-only
returns-then-kind-eq-APPEND_KIND-clause-only g c = λ item h e. c.append.ensures.only item
    (subst (IsAppendOf item) (sym (take_rest c.args.body.now 1)) (kind_two_at item c.args.body.now c.in-len1-up.len_at_least c.if-kind-eq-APPEND_KIND.true h e))

pub returns-clause-found : goal.returns-clause-found
returns-clause-found g c =
    let e = ap (number_at w64) (sym (take_rest c.args.body.now 1)) ∙ sym c.u64_at.ensures ∙ ap (option_map beside) c.in-Some-default-empty.is in
    elim c.match-kind.branch [
      | in-1 w ↦ rw w.result-is (number_found c.args.body.now 1 c.in-Some-default-empty.number c.in-Some-default-empty.field-0-1.now (λ i. omega (arith, c.type_inv.body i)) c.in-len1-up.len_at_least w.in-1.is e c.in-Some-default-empty.len_below)
      | in-3 w ↦ rw w.result-is (number_found c.args.body.now 3 c.in-Some-default-empty.number c.in-Some-default-empty.field-0-1.now (λ i. omega (arith, c.type_inv.body i)) c.in-len1-up.len_at_least w.in-3.is e c.in-Some-default-empty.len_below)
      | in-4 w ↦ rw w.result-is (number_found c.args.body.now 4 c.in-Some-default-empty.number c.in-Some-default-empty.field-0-1.now (λ i. omega (arith, c.type_inv.body i)) c.in-len1-up.len_at_least w.in-4.is e c.in-Some-default-empty.len_below)
      | in_default-kind w ↦ rw w.result-is tt
    ]
