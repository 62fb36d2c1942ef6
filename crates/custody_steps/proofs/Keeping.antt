-- What is known of every world stays known, and what a change of what is kept is to the world.
use Rattle.std.proofs.Common.{◌≡◌, ℕ, ◌<◌, ◌≤◌, false, List, [], ◌∷◌, ◌++◌, length, Option, Some, None, option_map, slice_get, refl, sym, ap, ◌∙◌, Bool, arith, IsSomeAnd, OnOk, OnErr, Result, Ok, Err, IsTrue, ◌↔◌, is_some, IsSome}
use Rattle.std.specs.Option.{option_copied}
use denote.Ref.{Bor}
use Rattle.std.proofs.lemmas.List.{length_push}
use Rattle.std.proofs.lemmas.Option.{slice_get_within}
use Rattle.custody_store.specs.Buffers.{CanTake, appended_to}
use Rattle.custody_store.specs.Contents.{Contents, flag_at, taken_in, buffer_of, IsAnsweredToo}
use Rattle.custody_store.specs.Places.{contents_at, closed_at, IsChangedAt, AreSame}
use Rattle.custody_store.specs.declared.places.Places.{Places}
use Rattle.custody_store.proofs.Lists.{some_and}
use Rattle.custody_store.specs.Book.{Message, Delivery, Told, Book, changed_at, acknowledged_message, appended_to_buffer}
use Rattle.custody_store.specs.declared.sender.Sender.TheVariants as sender
use Rattle.relay_net.specs.Network.{Network}
use Rattle.relay_net.specs.Ways.{HasLoop}
use Rattle.relay_net.specs.declared.address.Entrance.{Entrance}
use Rattle.custody_steps.specs.declared.world.World.{World as Kept}
use Rattle.custody_steps.specs.Open.{AreOfMessages, HaveNoLoops}
use Rattle.custody_steps.specs.Steps.{OfDelivery, with_appended}
use Rattle.custody_steps.specs.World.{World, with_buffer}
use Rattle.custody_steps.specs.WorldFrom.{Shown, world_from, open_after}
use Rattle.custody_steps.proofs.Answering as answering
use Rattle.custody_steps.proofs.Delivered as delivered
use Rattle.custody_steps.proofs.Deliveries.{delivery_at, length-from, opened_last}
use Rattle.custody_steps.proofs.Views.{KnowAnswers, same_world, same_answers, same_closed, changed_world, changed_answers, changed_closed, buffer_of-taken_in}

-- What is known of every world.
pub record Known {A B : Type 0} (net : Network B) (places : Places A) (book : Book) : Type 0 where
  pub answers : KnowAnswers places book.messages
  pub closed : (p : ℕ) → closed_at places p ≤ length book.deliveries
  pub sent : AreOfMessages book.messages book.deliveries
  pub ending : HaveNoLoops net book.messages book.deliveries
  pub shown : Shown places book

-- the world of these, as it is shown
pub shown_of : {A : Type 0} (places : Places A) (book : Book) → Shown places book
shown_of places book = record { world = world_from places book; is = refl }

module _ {A B : Type 0} (net : Network B) (before after : Places A) (book : Book) (known : Known net before book) where
  -- nothing changed but for room
  pub known_same : AreSame before after → Known net after book
  known_same same = record {
    answers = same_answers before after same book.messages known.answers;
    closed = same_closed before after same (length book.deliveries) known.closed;
    sent = known.sent;
    ending = known.ending;
    shown = shown_of _ _;
  }

  -- one buffer changed, but no answer of it
  pub known_changed : (place buffer : ℕ) (new : Contents) → IsChangedAt before after place buffer new → new.answered ≡ (contents_at before place buffer).answered → Known net after book
  known_changed place buffer new is e = record {
    answers = changed_answers before after place buffer new is book.messages e known.answers;
    closed = changed_closed before after place buffer new is (length book.deliveries) known.closed;
    sent = known.sent;
    ending = known.ending;
    shown = shown_of _ _;
  }

  -- an answer wasn't kept for want of memory
  pub known_kept : (place buffer : ℕ) → IsChangedAt before after place buffer (contents_at after place buffer)
      → ((s : ℕ) → flag_at (contents_at after place buffer).answered s ≡ flag_at (contents_at before place buffer).answered s) → Known net after book
  known_kept place buffer is same = record {
    answers = answering.flags_kept before after place buffer 0 is same book.messages known.answers;
    closed = answering.flagged_closed before after place buffer 0 is (length book.deliveries) known.closed;
    sent = known.sent;
    ending = known.ending;
    shown = shown_of _ _;
  }

  -- a chunk's message was acknowledged, and its answer kept
  pub known_chunk : (place buffer serial : ℕ) → IsChangedAt before after place buffer (contents_at after place buffer)
      → IsAnsweredToo (contents_at before place buffer).answered serial (contents_at after place buffer).answered
      → (n : ℕ) (m : Message) → slice_get book.messages n ≡ Some m → m.sender ≡ sender.Chunk place buffer serial → (told : List Told) (new : Book)
      → new ≡ record book { messages = changed_at book.messages n acknowledged_message; acknowledged = told } → Known net after new
  known_chunk place buffer serial is too n m at e told new new_is = rw new_is (record {
    answers = answering.answers-chunk before after place buffer serial is too book.messages n m at e known.answers;
    closed = answering.flagged_closed before after place buffer serial is (length book.deliveries) known.closed;
    sent = delivered.of_messages-marked book.messages n book.deliveries known.sent;
    ending = delivered.no_loops-marked net book.messages n book.deliveries known.ending;
    shown = shown_of _ _;
  })

module _ {A B : Type 0} (net : Network B) (places : Places A) (book new : Book) (known : Known net places book) where
  -- a message was sent
  pub known_sent : (m : Message) → m.acknowledged ≡ false → new ≡ record book { messages = book.messages ++ m ∷ [] } → Known net places new
  known_sent m e new_is = rw new_is (record {
    answers = answering.answers-sent places book.messages m e known.answers;
    closed = known.closed;
    sent = delivered.of_messages-sent book.messages m book.deliveries known.sent;
    ending = delivered.no_loops-sent net book.messages m book.deliveries known.sent known.ending;
    shown = shown_of _ _;
  })

  -- a client's message was acknowledged
  pub known_client : (n : ℕ) (m : Message) (client : ℕ) → slice_get book.messages n ≡ Some m → m.sender ≡ sender.Client client → (told : List Told)
      → new ≡ record book { messages = changed_at book.messages n acknowledged_message; acknowledged = told } → Known net places new
  known_client n m client at e told new_is = rw new_is (record {
    answers = answering.answers-client places book.messages n m client at e known.answers;
    closed = known.closed;
    sent = delivered.of_messages-marked book.messages n book.deliveries known.sent;
    ending = delivered.no_loops-marked net book.messages n book.deliveries known.ending;
    shown = shown_of _ _;
  })

  -- a delivery was opened
  pub known_opened : (d : Delivery) (room : List ℕ) → d.message < length book.messages → ((m : Message) → slice_get book.messages d.message ≡ Some m → ¬ HasLoop net d.entrance d.tag m.entries)
      → new ≡ record book { deliveries = book.deliveries ++ d ∷ []; room = room } → Known net places new
  known_opened d room less ends new_is = rw new_is (record {
    answers = known.answers;
    closed = λ p. let most = known.closed p in let longer = length_push book.deliveries d in omega arith;
    sent = delivered.of_messages-opened book.messages book.deliveries d known.sent less;
    ending = delivered.no_loops-opened net book.messages book.deliveries d known.ending ends;
    shown = shown_of _ _;
  })

  -- a delivery changed, but not what it is of
  pub known_delivery : (change : Delivery → Delivery) (n : ℕ) (room : List ℕ) → delivered.IsOfSame change → new ≡ record book { deliveries = changed_at book.deliveries n change; room = room } → Known net places new
  known_delivery change n room same new_is = rw new_is (record {
    answers = known.answers;
    closed = λ p. let most = known.closed p in let longer = delivered.length-changed_at change book.deliveries n in omega arith;
    sent = delivered.of_messages-changed change book.messages book.deliveries n same known.sent;
    ending = delivered.no_loops-changed net change book.messages book.deliveries n same known.ending;
    shown = shown_of _ _;
  })

  -- room was made
  pub known_room : (room : List ℕ) → new ≡ record book { room = room } → Known net places new
  known_room room new_is = rw new_is (record { answers = known.answers; closed = known.closed; sent = known.sent; ending = known.ending; shown = shown_of _ _ })

-- What the world shows of the book.

module _ {A : Type 0} (places : Places A) (book : Book) (number : ℕ) where
  pub none_there : None ≡ slice_get book.deliveries number → ¬ (number < length (world_from places book).deliveries)
  none_there e h = let l = length-from (closed_at places) 0 book.deliveries in let x = delivered.got_within book.deliveries number (omega arith) in let at = x.1 in cc

  -- no delivery has this number
  pub none_of : (P : Delivery → Message → Type 0) → None ≡ slice_get book.deliveries number → ¬ OfDelivery (world_from places book) number P
  none_of P e h = rw (delivery_at (closed_at places) book.deliveries number, ← e) at h

  module _ (x : Delivery) (at : Some x ≡ slice_get book.deliveries number) where
    pub there : number < length book.deliveries
    there = slice_get_within book.deliveries number x (sym at)

    -- the delivery, as the world shows it
    pub shown : slice_get (world_from places book).deliveries number ≡ Some (open_after (closed_at places) number x)
    shown = delivery_at (closed_at places) book.deliveries number ∙ ap (option_map (open_after (closed_at places) number)) (sym at)

    pub shown_there : number < length (world_from places book).deliveries
    shown_there = let l = length-from (closed_at places) 0 book.deliveries in let h = there in omega arith

    pub of_none : (P : Delivery → Message → Type 0) → None ≡ slice_get book.messages x.message → ¬ OfDelivery (world_from places book) number P
    of_none P e h = rw (shown, ← e) at h

    module _ (m : Message) (sent : Some m ≡ slice_get book.messages x.message) (P : Delivery → Message → Type 0) where
      pub of_both : P (open_after (closed_at places) number x) m → OfDelivery (world_from places book) number P
      of_both p = rw (shown, ← sent) p

      pub both_of : OfDelivery (world_from places book) number P → P (open_after (closed_at places) number x) m
      both_of h = rw (shown, ← sent) at h

-- A delivery and its message, of which this holds.
pub record IsOf (w : World) (number : ℕ) (P : Delivery → Message → Type 0) : Type 0 where
  pub delivery : Delivery
  pub message : Message
  pub delivery_is : slice_get w.deliveries number ≡ Some delivery
  pub message_is : slice_get w.messages delivery.message ≡ Some message
  pub holds : P delivery message

pub is_of : (w : World) (number : ℕ) (P : Delivery → Message → Type 0) → OfDelivery w number P → IsOf w number P
is_of w number P h =
    let d = some_and (slice_get w.deliveries number) (λ (d : Delivery). IsSomeAnd (slice_get w.messages d.message) (P d)) h in
    let m = some_and (slice_get w.messages d.0.message) (P d.0) d.2 in
    record { delivery = d.0; message = m.0; delivery_is = d.1; message_is = m.1; holds = m.2 }

pub of_is : (w : World) (number : ℕ) (P : Delivery → Message → Type 0) → IsOf w number P → OfDelivery w number P
of_is w number P o = rw (o.delivery_is, o.message_is) o.holds

-- the world after a delivery changed in the book
pub delivery_world : {A : Type 0} (places : Places A) (book new : Book) (change : Delivery → Delivery) (n : ℕ) (room : List ℕ) → delivered.GoesAlong change → new ≡ record book { deliveries = changed_at book.deliveries n change; room = room }
    → world_from places new ≡ record (world_from places book) { deliveries = changed_at (world_from places book).deliveries n change }
delivery_world places book new change n room along e =
    ap (world_from places) e
    ∙ ap (λ (ds : List Delivery). record (world_from places book) { deliveries = ds }) (delivered.deliveries_changed change (closed_at places) book.deliveries n along)

-- the world after a delivery was opened
pub opened_world : {A : Type 0} (places : Places A) (book new : Book) (d : Delivery) (room : List ℕ) → closed_at places d.entrance.relay ≤ length book.deliveries
    → new ≡ record book { deliveries = book.deliveries ++ d ∷ []; room = room }
    → world_from places new ≡ record (world_from places book) { deliveries = (world_from places book).deliveries ++ d ∷ [] }
opened_world places book new d room h e =
    ap (world_from places) e
    ∙ ap (λ (ds : List Delivery). record (world_from places book) { deliveries = ds }) (opened_last (closed_at places) book.deliveries d h)

-- an error of a call of which this holds anyhow
pub at_error : {T E Q : Type 0} (r : Result T E) → Q → OnErr r Q
at_error (Ok x) q = _
at_error (Err e) q = q

-- what is known of a world that is kept
pub known_of : {A : Type 0} (w : Kept A) → Known w.net.now w.places w.book
known_of w = record { answers = w.answers; closed = w.closed; sent = w.sent; ending = w.ending; shown = w.shown }

-- what is known after a call that may fail
pub either : {T E P Q K : Type 0} (r : Result T E) → OnOk r P → OnErr r Q → (P → K) → (Q → K) → K
either (Ok x) p q done failed = done p
either (Err e) p q done failed = failed q

pub known_again : {A B : Type 0} (net : Network B) (places : Places A) (book new : Book) → Known net places book → new ≡ book → Known net places new
known_again net places book new known e = rw e known

-- the world after a message was acknowledged
pub marked_world : {A : Type 0} (places : Places A) (book new : Book) (w : World) (n : ℕ) (told : List Told) → new ≡ record book { messages = changed_at book.messages n acknowledged_message; acknowledged = told } → world_from places book ≡ w
    → world_from places new ≡ record w { messages = changed_at book.messages n acknowledged_message; acknowledged = told }
marked_world places book new w n told e same = ap (world_from places) e ∙ ap (λ (x : World). record x { messages = changed_at book.messages n acknowledged_message; acknowledged = told }) same

-- the world after a message was sent
pub sent_world : {A : Type 0} (places : Places A) (book new : Book) (w : World) (m x : Message) → new ≡ record book { messages = book.messages ++ m ∷ [] } → m ≡ x → world_from places book ≡ w
    → world_from places new ≡ record w { messages = book.messages ++ x ∷ [] }
sent_world places book new w m x e same is = ap (world_from places) e ∙ (λ i. record (is i) { messages = book.messages ++ same i ∷ [] })

-- the way of this message is known to end
pub ends_of : {B : Type 0} (net : Network B) (messages : List Message) (n : ℕ) (m : Message) (at : Entrance) (tag : List ℕ) → slice_get messages n ≡ Some m → ¬ HasLoop net at tag m.entries
    → (x : Message) → slice_get messages n ≡ Some x → ¬ HasLoop net at tag x.entries
ends_of net messages n m at tag e ends x ex = let same : m ≡ x = cc in rw (← same) ends

-- An answer `false` about what can't be.
pub never : (P : Type 0) → ¬ P → IsTrue false ↔ P
never P n = (λ e. absurd (cc), λ h. absurd (n h))

pub weaker_of : (w : World) (number : ℕ) (P Q : Delivery → Message → Type 0) → ((d : Delivery) (m : Message) → P d m → Q d m) → OfDelivery w number P → OfDelivery w number Q
weaker_of w number P Q h given = let o = is_of w number P given in rw (o.delivery_is, o.message_is) (h o.delivery o.message o.holds)

pub none_that : {A : Type 0} (places : Places A) (book : Book) (number : ℕ) (P : Delivery → Type 0) → None ≡ slice_get book.deliveries number → ¬ IsSomeAnd (slice_get (world_from places book).deliveries number) P
none_that places book number P e h = rw (delivery_at (closed_at places) book.deliveries number, ← e) at h

-- two worlds with the same deliveries have as many of them
pub as_many : {A : Type 0} (places others : Places A) (book new : Book) → (world_from others new).deliveries ≡ (world_from places book).deliveries → length new.deliveries ≡ length book.deliveries
as_many places others book new e =
    sym (length-from (closed_at others) 0 new.deliveries) ∙ ap length e ∙ length-from (closed_at places) 0 book.deliveries

-- a delivery was appended to a buffer of its relay
pub appended_world : {A : Type 0} (places made after : Places A) (book new : Book) (number buffer serial : ℕ) (d : Delivery) → Some d ≡ slice_get book.deliveries number → (m : Message) → Some m ≡ slice_get book.messages d.message → AreSame places made
    → IsChangedAt made after d.entrance.relay buffer (record (contents_at made d.entrance.relay buffer) { chunks = taken_in (contents_at made d.entrance.relay buffer).chunks serial d.tag m.entries })
    → CanTake (buffer_of (contents_at made d.entrance.relay buffer)) d.tag serial
    → (room : List ℕ) → new ≡ record book { deliveries = changed_at book.deliveries number (appended_to_buffer buffer); room = room }
    → world_from after new ≡ with_appended (world_from places book) number buffer serial
appended_world places made after book new number buffer serial d at m sent same is takes room new_is =
    let w = world_from places book in
    let old = contents_at made d.entrance.relay buffer in
    let change = appended_to d.tag m.entries serial in
    delivery_world after book new (appended_to_buffer buffer) number room (delivered.appended-along buffer) new_is
    ∙ ap (λ (x : World). record x { deliveries = changed_at x.deliveries number (appended_to_buffer buffer) })
    (changed_world made after d.entrance.relay buffer _ is book change (buffer_of-taken_in old d.tag m.entries serial takes)
    ∙ ap (λ (x : World). with_buffer x d.entrance.relay buffer change) (same_world places made same book))
    ∙ rw (shown places book number d at, ← sent) refl

-- whether there is what a reference is found to
pub is_present : {X : Type 0} (o : Option (Bor X)) (y : Option X) (r : Bool) → r ≡ is_some o → option_copied o ≡ y → IsTrue r ↔ IsSome y
is_present None y r e same = (λ yes. rw (← same) (sym e ∙ yes), λ h. e ∙ (rw (← same) at h))
is_present (Some x) y r e same = (λ yes. rw (← same) (sym e ∙ yes), λ h. e ∙ (rw (← same) at h))
