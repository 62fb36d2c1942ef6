-- An append under the lock says what the book's own says.
use Rattle.std.proofs.Common.{ℕ, ◌≡◌, List, length, Result, Ok, Err, refl, sym, subst}
use Rattle.std.specs.Prelude.{OnErr}
use Rattle.book_audit.specs.Audits.{SameLines}
use Rattle.book_audit.specs.declared.line.Line.{Line}
use Rattle.ack_receipt.specs.Books.{Appends, Book, IsWaiting, Unchanged, WritesLine}

abbrev line_at : ℕ → ℕ → ℕ → Line
line_at delivery serial count = record { delivery = delivery; serial = serial; count = count }

-- the entries are appended
pub appends_so : {D : Type 0} (delivery given serial : ℕ) (tag own : List ℕ) (entries all : List (List ℕ)) (old now new : Book D) → delivery ≡ given → tag ≡ own → entries ≡ all → old ≡ now
    → Appends delivery serial tag entries old new → Appends given serial own all now new
appends_so {D} delivery given serial tag own entries all old now new number same is there a =
    subst (λ (b : Book D). Appends given serial own all b new) there
    (subst (λ (es : List (List ℕ)). Appends given serial own es old new) is
    (subst (λ (t : List ℕ). Appends given serial t entries old new) same (subst (λ (n : ℕ). Appends n serial tag entries old new) number a)))

-- and the line is written
pub writes_so : {D : Type 0} (delivery given serial : ℕ) (entries all : List (List ℕ)) (old now new : Book D) → delivery ≡ given → entries ≡ all → old ≡ now
    → WritesLine (length old.appends) (record { delivery = delivery; serial = serial; count = length entries }) old new
    → WritesLine (length now.appends) (record { delivery = given; serial = serial; count = length all }) now new
writes_so {D} delivery given serial entries all old now new number is there w =
    subst (λ (b : Book D). WritesLine (length b.appends) (line_at given serial (length all)) b new) there
    (subst (λ (es : List (List ℕ)). WritesLine (length old.appends) (line_at given serial (length es)) old new) is
    (subst (λ (n : ℕ). WritesLine (length old.appends) (line_at n serial (length entries)) old new) number w))

-- or it waits
pub waits_so : (waiting : List (ℕ × Line)) (place delivery given serial count : ℕ) (entries : List (List ℕ)) → delivery ≡ given → count ≡ length entries
    → IsWaiting waiting place (record { delivery = delivery; serial = serial; count = length entries })
    → IsWaiting waiting place (record { delivery = given; serial = serial; count = count })
waits_so waiting place delivery given serial count entries number counted w =
    subst (λ (k : ℕ). IsWaiting waiting place (line_at given serial k)) (sym counted)
    (subst (λ (n : ℕ). IsWaiting waiting place (line_at n serial (length entries))) number w)

-- no line is written
pub lines_so : {D : Type 0} (old now new : Book D) → old ≡ now → (new.lines ≡ old.lines) × SameLines old.pages new.pages → (new.lines ≡ now.lines) × SameLines now.pages new.pages
lines_so {D} old now new there l = subst (λ (b : Book D). (new.lines ≡ b.lines) × SameLines b.pages new.pages) there l

-- a book that no call was made on is as it was
unchanged_itself : {D : Type 0} (b : Book D) → Unchanged b b
unchanged_itself b = record {
  book = record {
    first = refl;
    appends = refl;
    lines = refl;
    pages = record { count = refl; each = λ line. refl };
    waiting = λ place. refl;
    removed = refl;
  };
  chunks = refl;
  synced = refl;
}

pub stays_itself : {D T E : Type 0} (result : Result T E) (b : Book D) → OnErr result (Unchanged b b)
stays_itself (Ok _) b = tt
stays_itself (Err _) b = unchanged_itself b

-- and so is one that refused the call
pub stays_so : {D T E : Type 0} (result : Result T E) (old now new : Book D) → old ≡ now → Unchanged old new → OnErr result (Unchanged now new)
stays_so (Ok _) old now new there u = tt
stays_so {D} (Err _) old now new there u = subst (λ (b : Book D). Unchanged b new) there u
