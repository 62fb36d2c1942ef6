-- A book of which one message or one delivery changed.
use Rattle.std.proofs.Common.{◌≡◌, ℕ, zero, suc, ◌+◌, ◌<◌, List, [], ◌∷◌, ◌++◌, map, set, take, length, get_or, Option, Some, option_map, slice_get, IsSomeAnd, refl, sym, ap, ◌∙◌, arith, Vec, Bor}
use Rattle.std.specs.Option.{option_copied, option_map_or}
use Rattle.std.specs.Slice.{IsItemAt}
use Rattle.std.proofs.Math.Seq.{map-set_same}
use Rattle.std.proofs.lemmas.List.{length-map, map-set, map-append, map_more}
use Rattle.std.proofs.lemmas.Option.{slice_get-map, slice_get_read, slice_get-get_or}
use Rattle.step_lines.specs.Texts.{texts_of}
use Rattle.relay_net.proofs.Gets.{got}
use Rattle.custody_store.specs.declared.message.Acknowledged.{Acknowledged}
use Rattle.custody_store.specs.Book.{Message, Delivery, Opened, book_from, changed_at, events_told, with_room, Told, told_of, told_to, told_events}

changed_at-read : {X : Type 0} (xs : List X) (n : ℕ) (x : X) (change : X → X) → slice_get xs n ≡ Some x → changed_at xs n change ≡ set xs n (change x)
changed_at-read {X} xs n x change at = ap (λ (o : Option X). option_map_or (λ y. set xs n (change y)) o xs) at

-- Messages.

-- a message was replaced by what it changed to
pub message_changed : (change : Message → Message) (messages : List Message) (n : ℕ) (old new : Message) → n < length messages → old ≡ get_or messages n old → new ≡ change old → set messages n new ≡ changed_at messages n change
message_changed change messages n old new within is e =
    ap (set messages n) e ∙ sym (changed_at-read messages n old change (slice_get_read messages (length messages) n old refl within is))

-- the events that the message of this number tells, which was read
pub told-read : (messages : List Message) (n : ℕ) (m : Message) → n < length messages → m ≡ get_or messages n m → option_map_or events_told (slice_get messages n) [] ≡ events_told m
told-read messages n m within is = ap (λ (o : Option Message). option_map_or events_told o []) (slice_get_read messages (length messages) n m refl within is)

-- events were added to those that are stored
pub stored-added : {A : Type 0} (old new after : List (Acknowledged A)) → after ≡ old ++ new → told_events after ≡ told_events old ++ told_events new
stored-added old new after e = ap told_events e ∙ map-append told_of old new

-- the event that a client was told of one more entry
pub told_more : {A : Type 0} (client : ℕ) (tag : List ℕ) (entries : List (Vec ℕ A)) (i : ℕ) (entry : Vec ℕ A) (events : List (Acknowledged A)) (last : Acknowledged A) → i < length entries → entry ≡ get_or entries i entry
    → last.client ≡ client → last.event.tag.items ≡ tag → last.event.entry.items ≡ entry.items → told_events events ≡ told_to client tag (texts_of (take i entries))
    → told_events (events ++ last ∷ []) ≡ told_to client tag (texts_of (take (i + 1) entries))
told_more {A} client tag entries i entry events last less is by tagged copied so_far =
    let told : List ℕ → Told = λ text. record { client = client; event = record { tag = tag; entry = text } } in
    let same : last.event.entry.items ≡ (get_or entries i entry).items = copied ∙ ap (λ (text : Vec ℕ A). text.items) is in
    let shown : told_of last ≡ told (get_or entries i entry).items = λ j. record { client = by j; event = record { tag = tagged j; entry = same j } } in
    map-append told_of events (last ∷ []) ∙ (λ j. so_far j ++ shown j ∷ [])
    ∙ sym (ap (map told) (map_more (λ (text : Vec ℕ A). text.items) entries i entry less) ∙ map-append told (texts_of (take i entries)) ((get_or entries i entry).items ∷ []))

-- Deliveries.

-- the delivery of a number, among those with the room that they have
pub got_delivery : (opened found : List Opened) (number : ℕ) (r : Option (Bor Opened)) → found ≡ opened → IsItemAt found number r
    → option_map (λ d. d.delivery) (option_copied r) ≡ slice_get (map (λ (d : Opened). d.delivery) opened) number
got_delivery opened found number r same is = ap (option_map (λ (d : Opened). d.delivery)) (got opened found number r same is) ∙ sym (slice_get-map (λ (d : Opened). d.delivery) opened number)

-- An element was replaced by another one, and this is shown of it.
module _ {Y : Type 0} (show : Opened → Y) (change : Y → Y) (opened : List Opened) (n : ℕ) (old new : Opened) (within : n < length opened) (is : old ≡ get_or opened n old) where
  shown_changed : show new ≡ change (show old) → map show (set opened n new) ≡ changed_at (map show opened) n change
  shown_changed e =
      map-set show opened n new ∙ ap (set (map show opened) n) e
      ∙ sym (changed_at-read (map show opened) n (show old) change (slice_get-map show opened n ∙ ap (option_map show) (slice_get_read opened (length opened) n old refl within is)))

module _ (messages : List Message) (opened : List Opened) (events : List Told) (n : ℕ) (old new : Opened) (within : n < length (map (λ (d : Opened). d.delivery) opened)) (is : old ≡ get_or opened n old) where
  there : n < length opened
  there = simp length-map at within

  -- the delivery and its room
  pub both_changed : (change : Delivery → Delivery) (room : ℕ → ℕ) → new ≡ record { delivery = change old.delivery; room = room old.room }
      → book_from messages (set opened n new) events ≡ record (book_from messages opened events) {
        deliveries = changed_at (map (λ (d : Opened). d.delivery) opened) n change;
        room = changed_at (map (λ (d : Opened). d.room) opened) n room;
      }
  both_changed change room e = λ i. record (book_from messages opened events) {
    deliveries = shown_changed (λ (d : Opened). d.delivery) change opened n old new there is (ap (λ (d : Opened). d.delivery) e) i;
    room = shown_changed (λ (d : Opened). d.room) room opened n old new there is (ap (λ (d : Opened). d.room) e) i;
  }

  -- the delivery alone
  pub delivery_changed : (change : Delivery → Delivery) → new ≡ record old { delivery = change old.delivery }
      → book_from messages (set opened n new) events ≡ record (book_from messages opened events) { deliveries = changed_at (map (λ (d : Opened). d.delivery) opened) n change }
  delivery_changed change e = λ i. record (book_from messages opened events) {
    deliveries = shown_changed (λ (d : Opened). d.delivery) change opened n old new there is (ap (λ (d : Opened). d.delivery) e) i;
    room = map-set_same (λ (d : Opened). d.room) opened n new old (ap (λ (d : Opened). d.room) e ∙ ap (λ (d : Opened). d.room) is) i;
  }

  -- its room alone
  pub room_changed : (room : ℕ → ℕ) → new ≡ record old { room = room old.room }
      → book_from messages (set opened n new) events ≡ record (book_from messages opened events) { room = changed_at (map (λ (d : Opened). d.room) opened) n room }
  room_changed room e = λ i. record (book_from messages opened events) {
    deliveries = map-set_same (λ (d : Opened). d.delivery) opened n new old (ap (λ (d : Opened). d.delivery) e ∙ ap (λ (d : Opened). d.delivery) is) i;
    room = shown_changed (λ (d : Opened). d.room) room opened n old new there is (ap (λ (d : Opened). d.room) e) i;
  }

-- Room.

slice_get_set : {X : Type 0} (xs : List X) (n : ℕ) (x : X) → n < length xs → slice_get (set xs n x) n ≡ Some x
slice_get_set [] n x h = absurd (omega arith)
slice_get_set (y ∷ xs) zero x h = refl
slice_get_set (y ∷ xs) (suc n) x h = slice_get_set xs n x (omega arith)

-- where room was made, there is room
pub room_there : (room : List ℕ) (n : ℕ) → n < length room → IsSomeAnd (slice_get (changed_at room n with_room) n) (λ r. 0 < r)
room_there room n h = rw (slice_get-get_or room n 0 h, slice_get_set room n (with_room (get_or room n 0)) h) (omega arith)

-- where there is room for one of a number, there is one of that number
pub room_within : (room : List ℕ) (n : ℕ) → IsSomeAnd (slice_get room n) (λ r. 0 < r) → n < length room
room_within [] n h = absurd h
room_within (r ∷ room) zero h = omega arith
room_within (r ∷ room) (suc n) h = let rest = room_within room n h in omega arith
