-- Parts that aren't in the book.
use Rattle.std.proofs.Common.{List, Ok, Err, IsErrOf, subst}
use Rattle.std.specs.Prelude.{All}
use Rattle.book_audit.specs.declared.fault.AuditError.TheVariants as errors
use Rattle.book_audit.specs.declared.fault.BookFault.TheVariants.{Stranger, Double, Missing}
use Rattle.book_audit.specs.declared.line.Leaf.{Leaf}
use Rattle.book_audit.specs.Stubs.{Left}
use Rattle.book_audit.specs.Audits.{Pages, IsInBook, AreInBook, HasStranger}

-- where all parts of the buffer are in the book, none is a stranger
pub no_stranger : (leaf : Leaf) (pages : Pages) (stubs : List Left) → All (AreInBook leaf pages) stubs → HasStranger leaf pages stubs → ⊥
no_stranger leaf pages stubs all some =
    let stub = some.1 in
    let part = some.4.1 in
    let known : AreInBook leaf pages stub = subst (AreInBook leaf pages) some.3 (all some.0 stub some.2) in
    some.4.4 (subst (IsInBook pages stub.delivery) some.4.3 (known some.4.0 part some.4.2))

-- what isn't that error

pub ok_differs : IsErrOf {T = Unit {0}} (Ok tt) (errors.Fault Stranger) → ⊥
ok_differs e = absurd (cc e)

pub missing_differs : IsErrOf {T = Unit {0}} (Err (errors.Fault Missing)) (errors.Fault Stranger) → ⊥
missing_differs e = absurd (cc e)

pub double_differs : IsErrOf {T = Unit {0}} (Err (errors.Fault Double)) (errors.Fault Stranger) → ⊥
double_differs e = absurd (cc e)
