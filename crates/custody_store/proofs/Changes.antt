-- What one buffer of one relay has, read and written.
use Rattle.std.proofs.Common.{◌≡◌, ◌∙◌, ◌==◌, ◌&&◌, ℕ, zero, suc, ◌<◌, ◌≤◌, List, [], ◌∷◌, Option, Some, None, IsSomeAnd, cond, set, length, get_or, slice_get, unwrap_or, refl, sym, ap, arith, inl, inr, true, false, IfSome, IfNone}
use Rattle.std.specs.Vec.{with_item}
use Rattle.std.specs.Option.{option_map_or, is_some}
use Rattle.std.proofs.lemmas.Option.{slice_get_read, slice_get_past}
use Rattle.custody_store.specs.Contents.{Contents, contents_of, empty_contents}
use Rattle.custody_store.specs.PlaceLists.{contents_in, closed_in}
use Rattle.custody_store.specs.Places.{contents_at, IsThere, IsChangedAt, AreSame}
use Rattle.custody_store.specs.declared.places.Place.{Place}
use Rattle.custody_store.specs.declared.places.Places.{Places}
use Rattle.custody_store.proofs.PlaceLists.{contents_in-read, contents_of-read, contents_in-set, closed_in-set}
use Rattle.std.proofs.lemmas.Bool.{eq-eqb, ne_eqb, cases_eq}
use Rattle.std.proofs.lemmas.List.{length-set}
use Rattle.std.specs.List.{ItemBy}

-- Reading.

-- a relay's place is within the list
pub place_within : {A : Type 0} (list : List (Place A)) (p b : ℕ) → IsSomeAnd (slice_get list p) (λ place. b < length place.buffers.items) → p < length list
place_within [] p b there = absurd there
place_within (x ∷ list) zero b there = omega arith
place_within (x ∷ list) (suc p) b there = let h = place_within list p b there in omega arith

-- a buffer's number is within those of its relay
pub buffer_within : {A : Type 0} (list : List (Place A)) (p b : ℕ) (x : Place A) → IsSomeAnd (slice_get list p) (λ place. b < length place.buffers.items) → x ≡ get_or list p x → b < length x.buffers.items
buffer_within [] p b x there is = absurd there
buffer_within (y ∷ list) zero b x there is = rw is there
buffer_within (y ∷ list) (suc p) b x there is = buffer_within list p b x there is

-- there is room for a buffer whose relay was read
pub room_there : {A : Type 0} (list : List (Place A)) (p b : ℕ) (x : Place A) → p < length list → x ≡ get_or list p x → b < length x.buffers.items → IsSomeAnd (slice_get list p) (λ place. b < length place.buffers.items)
room_there [] p b x within is room = absurd (omega arith)
room_there (y ∷ list) zero b x within is room = rw (← is) room
room_there (y ∷ list) (suc p) b x within is room = room_there list p b x (omega arith) is room

-- what was read is what the buffer has
pub contents_read : {A : Type 0} (list : List (Place A)) (p b : ℕ) (x : Place A) (y : Contents) → p < length list → x ≡ get_or list p x → b < length x.buffers.items → y ≡ get_or x.buffers.items b y → contents_in list p b ≡ y
contents_read list p b x y within is room read = contents_in-read list p b x within is ∙ contents_of-read x.buffers.items b y room read

-- the same, where there is room for it
pub contents_there : {A : Type 0} (places : Places A) (p b : ℕ) (x : Place A) (y : Contents) → IsThere places p b → x ≡ get_or places.list.items p x → y ≡ get_or x.buffers.items b y → contents_at places p b ≡ y
contents_there places p b x y there is read =
    contents_read places.list.items p b x y (place_within places.list.items p b there) is (buffer_within places.list.items p b x there is) read

-- a buffer past those of its relay has nothing
pub contents_past : {A : Type 0} (list : List (Place A)) (p b : ℕ) (x : Place A) → p < length list → x ≡ get_or list p x → length x.buffers.items ≤ b → contents_in list p b ≡ empty_contents
contents_past list p b x within is past = contents_in-read list p b x within is ∙ ap (λ (o : Option Contents). unwrap_or o empty_contents) (slice_get_past x.buffers.items b past)

-- a relay past the list has nothing
pub nothing_past : {A : Type 0} (list : List (Place A)) (p b : ℕ) → length list ≤ p → contents_in list p b ≡ empty_contents
nothing_past {A} list p b past = ap (λ (o : Option (Place A)). option_map_or (λ place. contents_of place.buffers.items b) o empty_contents) (slice_get_past list p past)

-- the buffer that a lookup gave, if it gave one
pub buffer_got : {A R : Type 0} (now : R → Contents) (list : List (Place A)) (p b : ℕ) (x : Place A) (r : Option R) → p < length list → x ≡ get_or list p x → ItemBy now x.buffers.items b b r
    → IfSome r (λ y. IsSomeAnd (slice_get list p) (λ place. b < length place.buffers.items) × (contents_in list p b ≡ now y)) × IfNone r (contents_in list p b ≡ empty_contents)
buffer_got now list p b x None within is got = (tt, contents_past list p b x within is got.3)
buffer_got now list p b x (Some y) within is got = ((room_there list p b x within is got.3.0, contents_read list p b x (now y) within is got.3.0 got.1), tt)

-- there is room, where a lookup gave a buffer
pub there_if_some : {R : Type 0} (r : Option R) (P : Type 0) (Q : R → Type 0) → is_some r ≡ true → IfSome r (λ y. P × Q y) → P
there_if_some None P Q some h = absurd (cc)
there_if_some (Some y) P Q some h = h.0

pub known_if_none : {R : Type 0} (r : Option R) (P : Type 0) → is_some r ≡ false → IfNone r P → P
known_if_none None P none h = h
known_if_none (Some y) P none h = absurd (cc)

-- the number below which deliveries have ended, of the relay that was read
pub closed_read : {A : Type 0} (list : List (Place A)) (p : ℕ) (x : Place A) → p < length list → x ≡ get_or list p x → x.closed ≡ closed_in list p
closed_read {A} list p x within is = sym (ap (λ (o : Option (Place A)). option_map_or (λ place. place.closed) o 0) (slice_get_read list (length list) p x refl within is))

-- none have, of a relay past the list
pub closed_past : {A : Type 0} (list : List (Place A)) (p : ℕ) → length list ≤ p → 0 ≡ closed_in list p
closed_past {A} list p past = sym (ap (λ (o : Option (Place A)). option_map_or (λ place. place.closed) o 0) (slice_get_past list p past))

-- Writing.

contents_of-set_same : (buffers : List Contents) (j : ℕ) (new : Contents) → j < length buffers → contents_of (set buffers j new) j ≡ new
contents_of-set_same [] j new within = absurd (omega arith)
contents_of-set_same (x ∷ buffers) zero new within = refl
contents_of-set_same (x ∷ buffers) (suc j) new within = contents_of-set_same buffers j new (omega arith)

contents_of-set_other : (buffers : List Contents) (j : ℕ) (new : Contents) (b : ℕ) → (b ≡ j → ⊥) → contents_of (set buffers j new) b ≡ contents_of buffers b
contents_of-set_other [] j new b apart = refl
contents_of-set_other (x ∷ buffers) zero new zero apart = absurd (apart refl)
contents_of-set_other (x ∷ buffers) zero new (suc b) apart = refl
contents_of-set_other (x ∷ buffers) (suc j) new zero apart = refl
contents_of-set_other (x ∷ buffers) (suc j) new (suc b) apart = contents_of-set_other buffers j new b (λ e. apart (ap suc e))

contents_of-set : (buffers : List Contents) (j : ℕ) (new : Contents) (b : ℕ) → j < length buffers → contents_of (set buffers j new) b ≡ cond (b == j) new (contents_of buffers b)
contents_of-set buffers j new b within = elim (cases_eq b j) as (λ _. contents_of (set buffers j new) b ≡ cond (b == j) new (contents_of buffers b)) [
  | inl e ↦ rw (e, eq-eqb j j refl) (contents_of-set_same buffers j new within)
  | inr apart ↦ rw (ne_eqb b j apart) (contents_of-set_other buffers j new b apart)
]

contents_in-set_same : {A : Type 0} (list : List (Place A)) (k : ℕ) (new : Place A) (b : ℕ) → k < length list → contents_in (set list k new) k b ≡ contents_of new.buffers.items b
contents_in-set_same [] k new b within = absurd (omega arith)
contents_in-set_same (x ∷ list) zero new b within = refl
contents_in-set_same (x ∷ list) (suc k) new b within = contents_in-set_same list k new b (omega arith)

contents_in-set_other : {A : Type 0} (list : List (Place A)) (k : ℕ) (new : Place A) (p b : ℕ) → (p ≡ k → ⊥) → contents_in (set list k new) p b ≡ contents_in list p b
contents_in-set_other [] k new p b apart = refl
contents_in-set_other (x ∷ list) zero new zero b apart = absurd (apart refl)
contents_in-set_other (x ∷ list) zero new (suc p) b apart = refl
contents_in-set_other (x ∷ list) (suc k) new zero b apart = refl
contents_in-set_other (x ∷ list) (suc k) new (suc p) b apart = contents_in-set_other list k new p b (λ e. apart (ap suc e))

contents_in-changed : {A : Type 0} (list : List (Place A)) (k j : ℕ) (old new : Place A) (after : Contents) (p b : ℕ) → k < length list → old ≡ get_or list k old → j < length old.buffers.items → new.buffers.items ≡ set old.buffers.items j after
    → contents_in (set list k new) p b ≡ cond ((p == k) && (b == j)) after (contents_in list p b)
contents_in-changed list k j old new after p b within is room e = elim (cases_eq p k) as (λ _. contents_in (set list k new) p b ≡ cond ((p == k) && (b == j)) after (contents_in list p b)) [
  | inl same ↦ rw (same, eq-eqb k k refl, contents_in-set_same list k new b within, contents_in-read list k b old within is, e) (contents_of-set old.buffers.items j after b room)
  | inr apart ↦ rw (ne_eqb p k apart) (contents_in-set_other list k new p b apart)
]

closed_in-set_same : {A : Type 0} (list : List (Place A)) (k : ℕ) (new : Place A) → k < length list → closed_in (set list k new) k ≡ new.closed
closed_in-set_same [] k new within = absurd (omega arith)
closed_in-set_same (x ∷ list) zero new within = refl
closed_in-set_same (x ∷ list) (suc k) new within = closed_in-set_same list k new (omega arith)

closed_in-set_other : {A : Type 0} (list : List (Place A)) (k : ℕ) (new : Place A) (p : ℕ) → (p ≡ k → ⊥) → closed_in (set list k new) p ≡ closed_in list p
closed_in-set_other [] k new p apart = refl
closed_in-set_other (x ∷ list) zero new zero apart = absurd (apart refl)
closed_in-set_other (x ∷ list) zero new (suc p) apart = refl
closed_in-set_other (x ∷ list) (suc k) new zero apart = refl
closed_in-set_other (x ∷ list) (suc k) new (suc p) apart = closed_in-set_other list k new p (λ e. apart (ap suc e))

-- one relay's deliveries ended
pub closed_in-changed : {A : Type 0} (list : List (Place A)) (k : ℕ) (new : Place A) (p : ℕ) → k < length list → closed_in (set list k new) p ≡ cond (p == k) new.closed (closed_in list p)
closed_in-changed list k new p within = elim (cases_eq p k) as (λ _. closed_in (set list k new) p ≡ cond (p == k) new.closed (closed_in list p)) [
  | inl e ↦ rw (e, eq-eqb k k refl) (closed_in-set_same list k new within)
  | inr apart ↦ rw (ne_eqb p k apart) (closed_in-set_other list k new p apart)
]

-- the relays after the buffer of this number, of the relay that was read, is written
abbrev pub written : {A : Type 0} → Places A → ℕ → Place A → ℕ → Contents → Places A
written places p x b new = record { list = with_item places.list p (record { buffers = with_item x.buffers b new; closed = x.closed }) }

-- a buffer that became f of what was read
pub changed_by : {A : Type 0} (f : Contents → Contents) (places : Places A) (p b : ℕ) (x : Place A) (old new : Contents) → IsThere places p b → x ≡ get_or places.list.items p x → old ≡ get_or x.buffers.items b old → new ≡ f old
    → IsChangedAt places (written places p x b new) p b (f (contents_at places p b))
changed_by f places p b x old new there is read e =
    let within = place_within places.list.items p b there in
    let room = buffer_within places.list.items p b x there is in
    rw (contents_there places p b x old there is read, ← e) (record {
      contents = λ q c. contents_in-changed places.list.items p b x (record { buffers = with_item x.buffers b new; closed = x.closed }) new q c within is room refl;
      closed = λ q. closed_in-set places.list.items p x (record { buffers = with_item x.buffers b new; closed = x.closed }) q within is refl;
    })

contents_of-kept : (buffers : List Contents) (j : ℕ) (new : Contents) (b : ℕ) → j < length buffers → new ≡ get_or buffers j new → contents_of (set buffers j new) b ≡ contents_of buffers b
contents_of-kept [] j new b within is = absurd (omega arith)
contents_of-kept (x ∷ buffers) zero new zero within is = is
contents_of-kept (x ∷ buffers) zero new (suc b) within is = refl
contents_of-kept (x ∷ buffers) (suc j) new zero within is = refl
contents_of-kept (x ∷ buffers) (suc j) new (suc b) within is = contents_of-kept buffers j new b (omega arith) is

-- a buffer that is as it was read
pub same_by : {A : Type 0} (places : Places A) (p b : ℕ) (x : Place A) (old new : Contents) → IsThere places p b → x ≡ get_or places.list.items p x → old ≡ get_or x.buffers.items b old → new ≡ old
    → AreSame places (written places p x b new)
same_by places p b x old new there is read e =
    let within = place_within places.list.items p b there in
    let room = buffer_within places.list.items p b x there is in
    rw e (record {
      contents = λ q c. contents_in-set places.list.items p x (record { buffers = with_item x.buffers b old; closed = x.closed }) q c within is (λ d. contents_of-kept x.buffers.items b old d room read);
      closed = λ q. closed_in-set places.list.items p x (record { buffers = with_item x.buffers b old; closed = x.closed }) q within is refl;
    })

-- what is written is what the buffer has
pub contents_written : {A : Type 0} (places : Places A) (p b : ℕ) (x : Place A) (new : Contents) → IsThere places p b → x ≡ get_or places.list.items p x → contents_at (written places p x b new) p b ≡ new
contents_written places p b x new there is =
    contents_in-set_same places.list.items p (record { buffers = with_item x.buffers b new; closed = x.closed }) b (place_within places.list.items p b there) ∙ contents_of-set_same x.buffers.items b new (buffer_within places.list.items p b x there is)

room_in-set : {A : Type 0} (list : List (Place A)) (p b : ℕ) (new : Place A) → p < length list → b < length new.buffers.items → IsSomeAnd (slice_get (set list p new) p) (λ place. b < length place.buffers.items)
room_in-set [] p b new within room = absurd (omega arith)
room_in-set (x ∷ list) zero b new within room = room
room_in-set (x ∷ list) (suc p) b new within room = room_in-set list p b new (omega arith) room

-- there is still room for it
pub room_written : {A : Type 0} (places : Places A) (p b : ℕ) (x : Place A) (new : Contents) → IsThere places p b → x ≡ get_or places.list.items p x → IsThere (written places p x b new) p b
room_written places p b x new there is =
    room_in-set places.list.items p b (record { buffers = with_item x.buffers b new; closed = x.closed }) (place_within places.list.items p b there) (rw (length-set x.buffers.items b new) (buffer_within places.list.items p b x there is))
