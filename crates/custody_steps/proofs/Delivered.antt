-- Messages and deliveries of a book that changed.
use Rattle.std.proofs.Common.{◌≡◌, ℕ, zero, suc, ◌<◌, List, [], ◌∷◌, ◌++◌, length, Option, Some, None, slice_get, slice_set, refl, sym, ap, ◌∙◌, arith, inl, inr, ◌⊎◌}
use Rattle.std.specs.Option.{option_map_or}
use Rattle.std.proofs.lemmas.List.{length_push}
use Rattle.custody_store.specs.Book.{Message, Delivery, changed_at, acknowledged_message, appended_to_buffer, ended}
use Rattle.relay_net.specs.Network.{Network}
use Rattle.relay_net.specs.Ways.{HasLoop}
use Rattle.custody_steps.specs.Open.{AreOfMessages, HaveNoLoops}
use Rattle.custody_steps.specs.WorldFrom.{open_after, deliveries_from}

-- Lists of which one element came or changed.

got_last : {X : Type 0} (xs : List X) (x y : X) (k : ℕ) → slice_get (xs ++ x ∷ []) k ≡ Some y → (slice_get xs k ≡ Some y) ⊎ (x ≡ y)
got_last [] x y zero e = inr (cc)
got_last [] x y (suc k) e = absurd (cc)
got_last (z ∷ xs) x y zero e = inl e
got_last (z ∷ xs) x y (suc k) e = got_last xs x y k e

got_before : {X : Type 0} (xs ys : List X) (k : ℕ) (y : X) → k < length xs → slice_get (xs ++ ys) k ≡ Some y → slice_get xs k ≡ Some y
got_before [] ys k y h e = absurd (omega arith)
got_before (x ∷ xs) ys zero y h e = e
got_before (x ∷ xs) ys (suc k) y h e = got_before xs ys k y (omega arith) e

changed_at-tail : {X : Type 0} (f : X → X) (x : X) (xs : List X) (n : ℕ) → changed_at (x ∷ xs) (suc n) f ≡ x ∷ changed_at xs n f
changed_at-tail {X} f x xs n = by_element (slice_get xs n)
  where
    by_element : (o : Option X) → option_map_or (λ y. slice_set (x ∷ xs) (suc n) (f y)) o (x ∷ xs) ≡ x ∷ option_map_or (λ y. slice_set xs n (f y)) o xs
    by_element None = refl
    by_element (Some y) = refl

pub changed_at-there : {X : Type 0} (f : X → X) (xs : List X) (n : ℕ) (x : X) → slice_get xs n ≡ Some x → changed_at xs n f ≡ slice_set xs n (f x)
changed_at-there {X} f xs n x at = ap (λ (o : Option X). option_map_or (λ y. slice_set xs n (f y)) o xs) at

pub length-changed_at : {X : Type 0} (f : X → X) (xs : List X) (n : ℕ) → length (changed_at xs n f) ≡ length xs
length-changed_at f [] n = refl
length-changed_at f (x ∷ xs) zero = refl
length-changed_at f (x ∷ xs) (suc n) = ap length (changed_at-tail f x xs n) ∙ ap suc (length-changed_at f xs n)

got_changed : {X : Type 0} (f : X → X) (xs : List X) (n k : ℕ) (y : X) → slice_get (changed_at xs n f) k ≡ Some y → (x : X) × (slice_get xs k ≡ Some x) × ((y ≡ f x) ⊎ (y ≡ x))
got_changed f [] n k y e = absurd (cc)
got_changed f (x ∷ xs) zero zero y e = (x, refl, inl (cc))
got_changed f (x ∷ xs) zero (suc k) y e = (y, e, inr refl)
got_changed f (x ∷ xs) (suc n) zero y e = let e' = rw (changed_at-tail f x xs n) at e in (x, refl, inr (cc))
got_changed f (x ∷ xs) (suc n) (suc k) y e = let e' = rw (changed_at-tail f x xs n) at e in got_changed f xs n k y e'

pub got_within : {X : Type 0} (xs : List X) (n : ℕ) → n < length xs → (x : X) × (slice_get xs n ≡ Some x)
got_within [] n h = absurd (omega arith)
got_within (x ∷ xs) zero h = (x, refl)
got_within (x ∷ xs) (suc n) h = got_within xs n (omega arith)

-- Deliveries are of messages, and their ways end.

pub of_messages-opened : (messages : List Message) (ds : List Delivery) (d : Delivery) → AreOfMessages messages ds → d.message < length messages → AreOfMessages messages (ds ++ d ∷ [])
of_messages-opened messages ds d given less k x e = elim (got_last ds d x k e) as (λ _. x.message < length messages) [
  | inl old ↦ given k x old
  | inr same ↦ rw (← same) less
]

pub no_loops-opened : {A : Type 0} (net : Network A) (messages : List Message) (ds : List Delivery) (d : Delivery) → HaveNoLoops net messages ds
    → ((m : Message) → slice_get messages d.message ≡ Some m → ¬ HasLoop net d.entrance d.tag m.entries) → HaveNoLoops net messages (ds ++ d ∷ [])
no_loops-opened net messages ds d given ends k x m e at = elim (got_last ds d x k e) as (λ _. ¬ HasLoop net x.entrance x.tag m.entries) [
  | inl old ↦ given k x m old at
  | inr same ↦ let at_d = rw (← same) at at in rw (← same) (ends m at_d)
]

-- A change leaves what the delivery is of, where that came in, and under which tag.
pub record IsOfSame (change : Delivery → Delivery) : Type 0 where
  pub message : (d : Delivery) → (change d).message ≡ d.message
  pub entrance : (d : Delivery) → (change d).entrance ≡ d.entrance
  pub tag : (d : Delivery) → (change d).tag ≡ d.tag

pub of_messages-changed : (change : Delivery → Delivery) (messages : List Message) (ds : List Delivery) (n : ℕ) → IsOfSame change → AreOfMessages messages ds → AreOfMessages messages (changed_at ds n change)
of_messages-changed change messages ds n same given k y e = let x = got_changed change ds n k y e in elim x.2 as (λ _. y.message < length messages) [
  | inl c ↦ rw (c, same.message x.0) (given k x.0 x.1)
  | inr c ↦ rw c (given k x.0 x.1)
]

pub no_loops-changed : {A : Type 0} (net : Network A) (change : Delivery → Delivery) (messages : List Message) (ds : List Delivery) (n : ℕ) → IsOfSame change → HaveNoLoops net messages ds → HaveNoLoops net messages (changed_at ds n change)
no_loops-changed net change messages ds n same given k y m e at = let x = got_changed change ds n k y e in elim x.2 as (λ _. ¬ HasLoop net y.entrance y.tag m.entries) [
  | inl c ↦ let at_x = rw (c, same.message x.0) at at in rw (c, same.entrance x.0, same.tag x.0) (given k x.0 m x.1 at_x)
  | inr c ↦ let at_x = rw c at at in rw c (given k x.0 m x.1 at_x)
]

pub of_messages-sent : (messages : List Message) (m : Message) (ds : List Delivery) → AreOfMessages messages ds → AreOfMessages (messages ++ m ∷ []) ds
of_messages-sent messages m ds given k d e = let less = given k d e in let longer = length_push messages m in omega arith

pub no_loops-sent : {A : Type 0} (net : Network A) (messages : List Message) (m : Message) (ds : List Delivery) → AreOfMessages messages ds → HaveNoLoops net messages ds → HaveNoLoops net (messages ++ m ∷ []) ds
no_loops-sent net messages m ds sent given k d x e at = given k d x e (got_before messages (m ∷ []) d.message x (sent k d e) at)

pub of_messages-marked : (messages : List Message) (n : ℕ) (ds : List Delivery) → AreOfMessages messages ds → AreOfMessages (changed_at messages n acknowledged_message) ds
of_messages-marked messages n ds given k d e = let less = given k d e in let same = length-changed_at acknowledged_message messages n in omega arith

pub no_loops-marked : {A : Type 0} (net : Network A) (messages : List Message) (n : ℕ) (ds : List Delivery) → HaveNoLoops net messages ds → HaveNoLoops net (changed_at messages n acknowledged_message) ds
no_loops-marked net messages n ds given k d y e at = let x = got_changed acknowledged_message messages n d.message y at in elim x.2 as (λ _. ¬ HasLoop net d.entrance d.tag y.entries) [
  | inl c ↦ rw c (given k d x.0 e x.1)
  | inr c ↦ rw c (given k d x.0 e x.1)
]

-- The world's deliveries after one of the book's changed.

-- A change goes along with what restarts ended.
abbrev pub GoesAlong : (Delivery → Delivery) → Type 0
GoesAlong change = (closed : ℕ → ℕ) (number : ℕ) (d : Delivery) → open_after closed number (change d) ≡ change (open_after closed number d)

changed-from : (change : Delivery → Delivery) (closed : ℕ → ℕ) (number : ℕ) (ds : List Delivery) (n : ℕ) → GoesAlong change → deliveries_from closed number (changed_at ds n change) ≡ changed_at (deliveries_from closed number ds) n change
changed-from change closed number [] n along = refl
changed-from change closed number (d ∷ ds) zero along = ap (λ (x : Delivery). x ∷ deliveries_from closed (suc number) ds) (along closed number d)
changed-from change closed number (d ∷ ds) (suc n) along =
    ap (deliveries_from closed number) (changed_at-tail change d ds n)
    ∙ ap (λ (l : List Delivery). open_after closed number d ∷ l) (changed-from change closed (suc number) ds n along)
    ∙ sym (changed_at-tail change (open_after closed number d) (deliveries_from closed (suc number) ds) n)

pub deliveries_changed : (change : Delivery → Delivery) (closed : ℕ → ℕ) (ds : List Delivery) (n : ℕ) → GoesAlong change → deliveries_from closed 0 (changed_at ds n change) ≡ changed_at (deliveries_from closed 0 ds) n change
deliveries_changed change closed ds n along = changed-from change closed 0 ds n along

pub ended-along : GoesAlong ended
ended-along closed number d = refl

pub ended-same : IsOfSame ended
ended-same = record { message = λ _. refl; entrance = λ _. refl; tag = λ _. refl }

pub appended-along : (buffer : ℕ) → GoesAlong (appended_to_buffer buffer)
appended-along buffer closed number d = refl

pub appended-same : (buffer : ℕ) → IsOfSame (appended_to_buffer buffer)
appended-same buffer = record { message = λ _. refl; entrance = λ _. refl; tag = λ _. refl }
