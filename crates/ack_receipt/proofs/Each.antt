-- Whether each element of a list is so, or one of them is.
use Rattle.std.proofs.Common.{ℕ, ◌≡◌, ◌∙◌, ◌<◌, ◌≤◌, Bool, true, false, List, length, get_or, Decides, MatchBool, refl, sym, subst, arith}
use Rattle.std.specs.Prelude.{◌↔◌, All, Any, IsTrue, not}
use Rattle.std.specs.List.{HoldsAt, AllWithin}
use lib.Dec.{eqb, ltb}
use Rattle.std.proofs.lemmas.Bool.{eqb-false, eqb-true, false≢true, ltb-false, ltb-true, not-false, not-true}
use Rattle.std.proofs.lemmas.List.{get_or_default}
use Rattle.ack_receipt.specs.Deliveries.{Pended}

pub all_decided : {X : Type 0} (none : X) (P Q : X → Type 0) (r : Bool) (xs : List X) → ((x : X) → Q x → P x → ⊥) → MatchBool r (AllWithin P xs 0 (length xs)) ((k : ℕ) × (k < length xs) × HoldsAt Q xs k) → Decides r (All P xs)
all_decided none P Q true xs not h = (λ _. λ k d i. h k d (omega arith) i, λ _. refl)
all_decided none P Q false xs not h = (λ e. absurd (false≢true e), λ a. absurd (not (get_or xs h.0 none) (h.2 none) (a h.0 none h.1)))

pub any_decided : {X : Type 0} (none : X) (P : X → Type 0) (r : Bool) (xs : List X) → MatchBool r ((k : ℕ) × (k < length xs) × HoldsAt P xs k) (AllWithin (λ x. P x → ⊥) xs 0 (length xs)) → Decides r (Any P xs)
any_decided none P true xs h = (λ _. (h.0, get_or xs h.0 none, h.1, get_or_default xs h.0 (get_or xs h.0 none) none h.1, h.2 none), λ _. refl)
any_decided none P false xs h = (λ e. absurd (false≢true e), λ a. absurd (none_there a))
  where
    none_there : Any P xs → ⊥
    none_there (k, x, inside, is, holds) = h k x (omega arith) inside (subst P (sym is) holds)

-- A fact that a search leaves whole: it isn't taken apart where it is looked for.
pub data Known (P : Type 0) : Type 0 where
  known : P → Known P

pub fact : {P : Type 0} → Known P → P
fact (known p) = p

-- what is known where a call answered yes, and where it answered no
pub known_so : (P : Type 0) (r : Bool) → IsTrue r ↔ P → true ≡ r → Known P
known_so P r h e = known (h.0 (sym e))

pub record IsNot (P : Type 0) : Type 0 where
  pub not : P → ⊥

pub known_not : (P : Type 0) (r : Bool) → IsTrue r ↔ P → false ≡ r → Known (IsNot P)
known_not P r h e = known (record { not = λ p. absurd (false≢true (e ∙ h.1 p)) })

-- an append has another place
pub record IsOther (place : ℕ) (pending : Pended) : Type 0 where
  pub other : place ≡ pending.place → ⊥

-- what a comparison says of an append, as contracts see it
pub known_below : (count : ℕ) (view now : Pended) → view ≡ now → true ≡ ltb view.place count → Known (now.place < count)
known_below count view now same e = known (subst (λ (p : Pended). p.place < count) same (ltb-true view.place count (sym e)))

pub known_past : (count : ℕ) (view now : Pended) → view ≡ now → false ≡ ltb view.place count → Known (count ≤ now.place)
known_past count view now same e = known (subst (λ (p : Pended). count ≤ p.place) same (ltb-false view.place count (sym e)))

pub known_other : (place : ℕ) (view now : Pended) → view ≡ now → true ≡ not (eqb place view.place) → Known (IsOther place now)
known_other place view now same e = known (subst (IsOther place) same (record { other = eqb-false place view.place (not-true (eqb place view.place) (sym e)) }))

pub known_same : (place : ℕ) (view now : Pended) → view ≡ now → false ≡ not (eqb place view.place) → Known (place ≡ now.place)
known_same place view now same e = known (subst (λ (p : Pended). place ≡ p.place) same (eqb-true place view.place (not-false (eqb place view.place) (sym e))))
