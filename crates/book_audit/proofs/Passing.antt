-- What a test of each element of a list, or of those that pass a filter, says.
use Rattle.std.proofs.Common.{ℕ, ◌≡◌, ◌<◌, zero, suc, Bool, true, false, cond, List, [], ◌∷◌, length, get_or, MatchBool, refl, sym, subst, arith, Contains, not}
use Rattle.std.specs.Prelude.{◌||◌, All, Any, filter}
use Rattle.std.specs.List.{AllWithin, HoldsAt}
use Rattle.std.proofs.lemmas.List.{get_or_default}
use Rattle.book_audit.specs.declared.line.Leaf.{Leaf}
use Rattle.book_audit.specs.declared.line.Part.{Part}
use Rattle.book_audit.specs.Stubs.{Left}
use Rattle.book_audit.specs.Audits.{Pages, AreInBook, IsInBook, is_of, parts_of}
use Rattle.std.proofs.lemmas.List.Elements.{All-nil, All-cons, All-head, All-tail, All-from_all_within, Contains-get_or}

all-kept : {X : Type 0} (P : X → Type 0) (x : X) (rest : List X) (b : Bool) → (b ≡ true → P x) → All P rest → All P (cond b (x ∷ rest) rest)
all-kept P x rest true h r = All-cons P x rest (h refl) r
all-kept P x rest false h r = r

pub all-filter : {X : Type 0} (p : X → Bool) (P : X → Type 0) (xs : List X) → All (λ x. p x ≡ true → P x) xs → All P (filter p xs)
all-filter p P [] h = All-nil P
all-filter {X} p P (x ∷ xs) h =
    let Q : X → Type 0 = λ z. p z ≡ true → P z in
    all-kept P x (filter p xs) (p x) (All-head Q x xs h) (all-filter p P xs (All-tail Q x xs h))

contains-kept : {X : Type 0} (y : X) (rest : List X) (x : X) (b : Bool) → Contains rest x → Contains (cond b (y ∷ rest) rest) x
contains-kept y rest x true c = (suc c.0, omega (arith, c.1), c.2)
contains-kept y rest x false c = c

pub contains-filter : {X : Type 0} (p : X → Bool) (xs : List X) (x : X) → Contains xs x → p x ≡ true → Contains (filter p xs) x
contains-filter p [] x (k, less, is) e = absurd (omega arith)
contains-filter p (y ∷ ys) x (zero, less, is) e =
    let passes : p y ≡ true = subst (λ z. p z ≡ true) (sym is) e in
    rw passes (0, omega arith, is)
contains-filter p (y ∷ ys) x (suc k, less, is) e = contains-kept y (filter p ys) x (p y) (contains-filter p ys x (k, omega arith, is) e)

-- each element has P, or one of them has Q
pub all_or_any : {X : Type 0} (d : X) (P Q : X → Type 0) (r : Bool) (xs : List X) → MatchBool r (AllWithin P xs 0 (length xs)) ((k : ℕ) × (k < length xs) × HoldsAt Q xs k) → MatchBool r (All P xs) (Any Q xs)
all_or_any d P Q true xs h = All-from_all_within P xs h
all_or_any d P Q false xs (k, less, holds) = (k, get_or xs k d, less, get_or_default xs k (get_or xs k d) d less, holds d)

-- the same of the elements that pass a test
pub filtered : {X : Type 0} (d : X) (p : X → Bool) (P Q : X → Type 0) (r : Bool) (xs : List X) → MatchBool r (AllWithin (λ x. p x ≡ true → P x) xs 0 (length xs)) ((k : ℕ) × (k < length xs) × HoldsAt (λ x. (p x ≡ true) × Q x) xs k)
    → MatchBool r (All P (filter p xs)) (Any Q (filter p xs))
filtered {X} d p P Q true xs h = all-filter p P xs (All-from_all_within (λ (x : X). p x ≡ true → P x) xs h)
filtered d p P Q false xs (k, less, holds) = some (holds d)
  where
    some : (p (get_or xs k d) ≡ true) × Q (get_or xs k d) → Any Q (filter p xs)
    some (e, q) = let c = contains-filter p xs (get_or xs k d) (Contains-get_or xs k d less) e in (c.0, get_or xs k d, c.1, c.2, q)

-- the same of a stub's parts of a buffer, where the stub is known by what is inside it
pub stub_cases : (leaf : Leaf) (pages : Pages) (inside stub : Left) (r : Bool) → inside ≡ stub
    → MatchBool r (AllWithin (λ part. is_of leaf part ≡ true → IsInBook pages inside.delivery part) inside.parts 0 (length inside.parts))
    ((k : ℕ) × (k < length inside.parts) × HoldsAt (λ part. (is_of leaf part ≡ true) × (¬ IsInBook pages inside.delivery part)) inside.parts k)
    → MatchBool r (AreInBook leaf pages stub) (Any (λ part. ¬ IsInBook pages stub.delivery part) (parts_of leaf stub))
stub_cases leaf pages inside stub r e h =
    let none : Part = record { relay = 0; buffer = 0; serial = 0; line = 0 } in
    subst (λ (s : Left). MatchBool r (AreInBook leaf pages s) (Any (λ part. ¬ IsInBook pages s.delivery part) (parts_of leaf s))) e
    (filtered none (is_of leaf) (IsInBook pages inside.delivery) (λ part. ¬ IsInBook pages inside.delivery part) r inside.parts h)

-- A fact that a search leaves whole: it isn't taken apart where it is looked for.
pub data Known (P : Type 0) : Type 0 where
  known : P → Known P

pub fact : {P : Type 0} → Known P → P
fact (known p) = p

-- what is known where a test is passed over, or a call answered yes
pub known_or : (P Q : Type 0) (a r : Bool) → (r ≡ true → P) × Q → true ≡ (not a || r) → a ≡ true → Known P
known_or P Q true true h e i = known (h.0 refl)
known_or P Q true false h e i = absurd (cc e)
known_or P Q false r h e i = absurd (cc i)

-- what is known where a call answered yes, and where it answered no
pub known_yes : (P Q : Type 0) (r : Bool) → MatchBool r P Q → true ≡ r → Known P
known_yes P Q true h e = known h
known_yes P Q false h e = absurd (cc e)

pub known_no : (P Q : Type 0) (r : Bool) → MatchBool r P Q → false ≡ r → Known Q
known_no P Q true h e = absurd (cc e)
known_no P Q false h e = known h
