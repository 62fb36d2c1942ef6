use Rattle.std.proofs.Common.{◌≡◌, true, rules, tests}
use Rattle.std.proofs.lemmas.Iterator.{cases_from_all, YieldsList-from_slice}
use Rattle.book_audit.specs.declared.line.Part.{Part}
use Rattle.book_audit.specs.Stubs.{Left}
use Rattle.book_audit.specs.Audits.{IsInBook, is_of}
use Rattle.book_audit.proofs.Passing.{fact, known_or, stub_cases}
use Rattle.book_audit.proofs.auditing.knows.Goals as goal

pub returns : goal.returns
returns g c =
    let stub = c.stub.inside in
    let inside : Left = record { delivery = stub.delivery; parts = stub.parts.items } in
    let P : Part → Type 0 = IsInBook c.args.pages.now stub.delivery in
    let Yes : Part → Type 0 = λ part. is_of c.args.leaf part ≡ true → P part in
    let No : Part → Type 0 = λ part. (is_of c.args.leaf part ≡ true) × (¬ P part) in
    stub_cases c.args.leaf c.args.pages.now inside c.args.stub.now c.all.result c.stub.view_is
    (cases_from_all _ _ _ Yes No c.all.ensures.ran (YieldsList-from_slice stub.parts.items cc) (λ x q k. (search rules, λ e. fact {P = P x.now} (search (rules, known_or)))) (λ x q k. search (rules, tests)))
