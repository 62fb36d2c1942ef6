-- Lists of relays and of buffers that grow, or of which one element changes.
use Rattle.std.proofs.Common.{◌≡◌, ℕ, zero, suc, ◌<◌, List, [], ◌∷◌, ◌++◌, set, length, get_or, refl, arith, inl, inr}
use Rattle.custody_store.specs.Buffers.{Event, Holds}
use Rattle.custody_store.specs.Contents.{Contents, contents_of, empty_contents, buffer_of}
use Rattle.custody_store.specs.PlaceLists.{contents_in, closed_in}
use Rattle.custody_store.specs.declared.places.Place.{Place}

-- one more buffer that has nothing
pub contents_of-push : (buffers : List Contents) (b : ℕ) → contents_of (buffers ++ empty_contents ∷ []) b ≡ contents_of buffers b
contents_of-push [] zero = refl
contents_of-push [] (suc b) = refl
contents_of-push (x ∷ buffers) zero = refl
contents_of-push (x ∷ buffers) (suc b) = contents_of-push buffers b

-- one more relay that has nothing
pub contents_in-push : {A : Type 0} (list : List (Place A)) (new : Place A) (p b : ℕ) → new.buffers.items ≡ [] → contents_in (list ++ new ∷ []) p b ≡ contents_in list p b
contents_in-push [] new zero b e = rw e refl
contents_in-push [] new (suc p) b e = refl
contents_in-push (x ∷ list) new zero b e = refl
contents_in-push (x ∷ list) new (suc p) b e = contents_in-push list new p b e

pub closed_in-push : {A : Type 0} (list : List (Place A)) (new : Place A) (p : ℕ) → new.closed ≡ 0 → closed_in (list ++ new ∷ []) p ≡ closed_in list p
closed_in-push [] new zero e = e
closed_in-push [] new (suc p) e = refl
closed_in-push (x ∷ list) new zero e = refl
closed_in-push (x ∷ list) new (suc p) e = closed_in-push list new p e

-- a relay that has what it had
pub contents_in-set : {A : Type 0} (list : List (Place A)) (k : ℕ) (old new : Place A) (p b : ℕ) → k < length list → old ≡ get_or list k old → ((b : ℕ) → contents_of new.buffers.items b ≡ contents_of old.buffers.items b)
    → contents_in (set list k new) p b ≡ contents_in list p b
contents_in-set [] k old new p b h is same = refl
contents_in-set (x ∷ list) zero old new zero b h is same = rw is at (same b)
contents_in-set (x ∷ list) zero old new (suc p) b h is same = refl
contents_in-set (x ∷ list) (suc k) old new zero b h is same = refl
contents_in-set (x ∷ list) (suc k) old new (suc p) b h is same = contents_in-set list k old new p b (omega arith) is same

pub closed_in-set : {A : Type 0} (list : List (Place A)) (k : ℕ) (old new : Place A) (p : ℕ) → k < length list → old ≡ get_or list k old → new.closed ≡ old.closed → closed_in (set list k new) p ≡ closed_in list p
closed_in-set [] k old new p h is same = refl
closed_in-set (x ∷ list) zero old new zero h is same = rw is at same
closed_in-set (x ∷ list) zero old new (suc p) h is same = refl
closed_in-set (x ∷ list) (suc k) old new zero h is same = refl
closed_in-set (x ∷ list) (suc k) old new (suc p) h is same = closed_in-set list k old new p (omega arith) is same

-- Where an event is held.

empty_holds : (event : Event) → Holds (buffer_of empty_contents) event → ⊥
empty_holds event h = elim h [ inl live ↦ absurd live.1 | inr stored ↦ let n = stored.1 in absurd (omega arith) ]

pub held_there : (buffers : List Contents) (b : ℕ) (event : Event) → Holds (buffer_of (contents_of buffers b)) event
    → (x : Contents) × (b < length buffers) × (get_or buffers b x ≡ x) × Holds (buffer_of x) event
held_there [] b event h = absurd (empty_holds event h)
held_there (x ∷ buffers) zero event h = (x, omega arith, refl, h)
held_there (x ∷ buffers) (suc b) event h = let w = held_there buffers b event h in (w.0, omega arith, w.2, w.3)

pub contents_of-read : (buffers : List Contents) (b : ℕ) (x : Contents) → b < length buffers → x ≡ get_or buffers b x → contents_of buffers b ≡ x
contents_of-read [] b x h is = absurd (omega arith)
contents_of-read (y ∷ buffers) zero x h is = rw is refl
contents_of-read (y ∷ buffers) (suc b) x h is = contents_of-read buffers b x (omega arith) is

pub held_in : {A : Type 0} (list : List (Place A)) (p b : ℕ) (event : Event) → Holds (buffer_of (contents_in list p b)) event
    → (x : Place A) × (p < length list) × (get_or list p x ≡ x) × Holds (buffer_of (contents_of x.buffers.items b)) event
held_in [] p b event h = absurd (empty_holds event h)
held_in (x ∷ list) zero b event h = (x, omega arith, refl, h)
held_in (x ∷ list) (suc p) b event h = let w = held_in list p b event h in (w.0, omega arith, w.2, w.3)

pub contents_in-read : {A : Type 0} (list : List (Place A)) (p b : ℕ) (x : Place A) → p < length list → x ≡ get_or list p x → contents_in list p b ≡ contents_of x.buffers.items b
contents_in-read [] p b x h is = absurd (omega arith)
contents_in-read (y ∷ list) zero b x h is = rw is refl
contents_in-read (y ∷ list) (suc p) b x h is = contents_in-read list p b x (omega arith) is
