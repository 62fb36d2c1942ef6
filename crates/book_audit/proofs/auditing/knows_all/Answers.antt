use Rattle.std.proofs.Common.{[], rules}
use Rattle.std.proofs.lemmas.Iterator.{cases_from_all, YieldsList-from_slice}
use Rattle.std.specs.Prelude.{Any}
use Rattle.book_audit.specs.Stubs.{Left}
use Rattle.book_audit.specs.Audits.{AreInBook, IsInBook, parts_of}
use Rattle.book_audit.proofs.Passing.{all_or_any, fact, known_no, known_yes}
use Rattle.book_audit.proofs.auditing.knows_all.Goals as goal

pub returns : goal.returns
returns g c =
    let Yes : Left → Type 0 = AreInBook c.args.leaf c.args.pages.now in
    let No : Left → Type 0 = λ stub. Any (λ part. ¬ IsInBook c.args.pages.now stub.delivery part) (parts_of c.args.leaf stub) in
    let none : Left = record { delivery = 0; parts = [] } in
    all_or_any none Yes No _ c.args.stubs.now (cases_from_all _ _ _ Yes No c.all.ensures.ran (YieldsList-from_slice c.args.stubs.now cc) (λ x q k. (search rules, fact {P = Yes x.now} (search (rules, known_yes)))) (λ x q k. fact {P = No x.now} (search (rules, known_no))))
