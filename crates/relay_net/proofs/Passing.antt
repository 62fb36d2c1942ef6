-- What one more element of a list changes in a search for a place.
use Rattle.std.proofs.Common.{◌≡◌, ℕ, suc, ◌+◌, ◌<◌, ◌≤◌, Bool, true, false, cond, List, [], ◌∷◌, Option, Some, None, drop, get_or, length, refl, sym, ap, ◌∙◌, arith}
use Rattle.std.specs.Option.{option_or}
use Rattle.std.proofs.lemmas.List.{drop_more, drop_all}

pub or_assoc : {X : Type 0} (a b c : Option X) → option_or (option_or a b) c ≡ option_or a (option_or b c)
or_assoc None b c = refl
or_assoc (Some x) b c = refl

pub or_none : {X : Type 0} (a : Option X) → option_or a None ≡ a
or_none None = refl
or_none (Some x) = refl

-- one that passes a test, or else what comes behind it
pub or_test : {X : Type 0} (b : Bool) (x : X) (more : Option X) → option_or (cond b (Some x) None) more ≡ cond b (Some x) more
or_test true x more = refl
or_test false x more = refl

-- One turn of a search: what is found at the place comes before what is found behind it.
pub one_turn : {X Y : Type 0} (found : ℕ → List X → Option Y) (first : ℕ → X → Option Y) → ((place : ℕ) (x : X) (xs : List X) → found place (x ∷ xs) ≡ option_or (first place x) (found (suc place) xs))
    → (xs : List X) (place : ℕ) (x : X) → place < length xs → x ≡ get_or xs place x → (before after all : Option Y) → after ≡ option_or before (first place x)
    → option_or before (found place (drop place xs)) ≡ all → option_or after (found (place + 1) (drop (place + 1) xs)) ≡ all
one_turn found first step xs place x less is before after all grown h =
    let rest = drop (place + 1) xs in
    let next : found (place + 1) rest ≡ found (suc place) rest = ap (λ n. found n rest) (omega arith) in
    ap (λ a. option_or a (found (place + 1) rest)) grown ∙ ap (option_or (option_or before (first place x))) next ∙ or_assoc before (first place x) (found (suc place) rest)
    ∙ ap (option_or before) (sym (ap (found place) (drop_more xs place x less ∙ ap (λ y. y ∷ rest) (sym is)) ∙ step place x rest)) ∙ h

-- the end of a search
pub no_turn : {X Y : Type 0} (found : ℕ → List X → Option Y) → ((place : ℕ) → found place [] ≡ None) → (xs : List X) (place : ℕ) → length xs ≤ place → (before all : Option Y)
    → option_or before (found place (drop place xs)) ≡ all → before ≡ all
no_turn found none xs place end before all h = sym (or_none before) ∙ ap (option_or before) (sym (ap (found place) (drop_all place xs end) ∙ none place)) ∙ h
