-- Whether an append to one of several buffers waits for its receipt.
use Rattle.std.proofs.Common.{ℕ, zero, suc, ◌≡◌, ◌∙◌, ◌<◌, arith, Bool, true, false, Decides, MatchBool, List, [], ◌∷◌, get_or, length, map, refl, subst, sym}
use Rattle.std.specs.List.{AllWithin, HoldsAt}
use Rattle.std.specs.Prelude.{◌↔◌, Any, IsTrue, slice_get, slice_index_or, unwrap_or}
use Rattle.std.proofs.lemmas.Bool.{false≢true}
use Rattle.std.proofs.lemmas.List.{get_or_default}
use Rattle.relay_conf.specs.declared.output.BufferNo.{BufferNo}
use Rattle.ack_receipt.specs.Deliveries.{Pended}
use Rattle.loop_core.specs.Lanes.{AppendsWait}
use Rattle.loop_core.proofs.Appending.{listed_is}

-- where something is listed at a place, a lane is there, and has it
found : {L : Type 0} (f : L → List Pended) (lanes : List L) (place : ℕ) → 0 < length (unwrap_or (slice_get (map f lanes) place) [])
    → (one : L) × (place < length lanes) × (slice_index_or lanes place one ≡ one) × (0 < length (f one))
found f [] place some = absurd (omega (arith, some))
found f (lane ∷ lanes) zero some = (lane, omega arith, refl, some)
found f (lane ∷ lanes) (suc place) some =
    let there = found f lanes place some in
    (there.0, omega (arith, there.1), there.2, there.3)

-- one of the lanes has an append that waits
pub has_one : {L : Type 0} (f : L → List Pended) (lanes : List L) → AppendsWait (map f lanes) → Any (λ lane. 0 < length (f lane)) lanes
has_one f lanes waits =
    let there = found f lanes waits.0.0 waits.1 in
    (waits.0.0, there.0, there.1, there.2, there.3)

-- and where one has, it is listed
pub one_waits : {L : Type 0} (f : L → List Pended) (lanes : List L) → Any (λ lane. 0 < length (f lane)) lanes → AppendsWait (map f lanes)
one_waits f lanes has =
    let buffer : BufferNo = record { 0 = has.0 } in
    (buffer, subst (λ (l : List Pended). 0 < length l) (sym (listed_is f lanes buffer has.1 has.2 (sym has.3))) has.4)

-- whether one of a list is so
pub any_decided : {X : Type 0} (P : X → Type 0) (r : Bool) (xs : List X) → MatchBool r ((k : ℕ) × (k < length xs) × HoldsAt P xs k) (AllWithin (λ x. P x → ⊥) xs 0 (length xs)) → Decides r (Any P xs)
any_decided P true [] h = absurd (omega (arith, h.1))
any_decided P true (x ∷ xs) h = (λ _. (h.0, get_or (x ∷ xs) h.0 x, h.1, get_or_default (x ∷ xs) h.0 (get_or (x ∷ xs) h.0 x) x h.1, h.2 x), λ _. refl)
any_decided {X} P false xs h = (λ e. absurd (false≢true e), λ a. none_there a)
  where
    none_there : Any P xs → false ≡ true
    none_there (k, x, inside, is, holds) = absurd (h k x (omega arith) inside (subst P (sym is) holds))

-- A fact that a search leaves whole: it isn't taken apart where it is looked for.
pub data Known (P : Type 0) : Type 0 where
  known : P → Known P

pub fact : {P : Type 0} → Known P → P
fact (known p) = p

-- what is known where a call answered yes, and where it answered no
pub known_so : (P : Type 0) (r : Bool) → IsTrue r ↔ P → true ≡ r → Known P
known_so P r h e = known (h.0 (sym e))

pub record IsNot (P : Type 0) : Type 0 where
  pub not : P → ⊥

pub known_not : (P : Type 0) (r : Bool) → IsTrue r ↔ P → false ≡ r → Known (IsNot P)
known_not P r h e = known (record { not = λ p. absurd (false≢true (e ∙ h.1 p)) })
