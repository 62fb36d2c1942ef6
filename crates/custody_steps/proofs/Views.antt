-- What a change of what relays have is to the world.
use Rattle.std.proofs.Common.{◌≡◌, ℕ, zero, suc, ◌+◌, ◌<◌, ◌≤◌, ◌==◌, ◌&&◌, Bool, true, false, cond, List, [], ◌∷◌, ◌++◌, map, length, take, Option, Some, None, option_map, Result, Ok, Err, OnOk, IsSome, slice_get, refl, sym, ap, ◌∙◌, inl, inr, arith, IsSomeAnd}
use Rattle.std.specs.Option.{option_and_then, option_map_or}
use Rattle.std.specs.List.{list_any}
use Rattle.std.proofs.lemmas.List.{length-map, length_push}
use Rattle.std.proofs.Math.Seq.{take-length}
use Rattle.std.proofs.lemmas.Bool.{and_parts, eqb-true, lt-ltb, le-ltb, false≢true}
use Rattle.custody_store.specs.Buffers.{Event, Chunk, BufferState, with_chunk, events_of, CanTake, appended_to, restarted, started_again}
use Rattle.custody_store.specs.Contents.{Contents, chunk_at, flag_at, changed, longer, new_chunk, taken_in, contents_of, buffer_of}
use Rattle.custody_store.specs.PlaceLists.{contents_in}
use Rattle.custody_store.specs.Places.{contents_at, closed_at, IsThere, IsChangedAt, AreSame}
use Rattle.custody_store.specs.declared.chunk.Look.{Look}
use Rattle.custody_store.specs.declared.places.Place.{Place}
use Rattle.custody_store.specs.declared.places.Places.{Places}
use Rattle.custody_store.proofs.ChunksAt.{chunk_at-push, chunk_at_past, chunk_at_within, buffer_of-changed}
use Rattle.custody_store.specs.Book.{Message, Book, ended}
use Rattle.relay_net.specs.Network.{Network, is_in_memory}
use Rattle.step_lines.specs.declared.step.ChunkName.{ChunkName}
use Rattle.custody_steps.specs.Answers.{is_answer}
use Rattle.custody_steps.specs.Found.{IsFound, chunk_of, with_found, stored_found}
use Rattle.custody_steps.specs.Restarts.{restarted_contents, AreRestarted}
use Rattle.custody_steps.specs.Steps.{with_named, with_stored}
use Rattle.custody_steps.specs.World.{World, with_buffer}
use Rattle.custody_steps.specs.WorldFrom.{world_from, deliveries_from}
use Rattle.custody_steps.specs.declared.found.Found.{Found}
use Rattle.custody_steps.proofs.Deliveries.{all_closed}

-- Acknowledgements that were given to chunks are those of the messages.
abbrev pub KnowAnswers : {A : Type 0} → Places A → List Message → Type 0
KnowAnswers places messages = (p b s : ℕ) → flag_at (contents_at places p b).answered s ≡ list_any (is_answer p b s) messages

-- Nothing changed but for room.
module _ {A : Type 0} (before after : Places A) (same : AreSame before after) where
  pub same_world : (book : Book) → world_from after book ≡ world_from before book
  same_world book = λ i. record {
    buffers = λ p b. buffer_of (same.contents p b i);
    messages = book.messages;
    deliveries = deliveries_from (λ p. same.closed p i) 0 book.deliveries;
    acknowledged = book.acknowledged;
  }

  pub same_answers : (messages : List Message) → KnowAnswers before messages → KnowAnswers after messages
  same_answers messages know p b s = ap (λ (c : Contents). flag_at c.answered s) (same.contents p b) ∙ know p b s

  pub same_closed : (n : ℕ) → ((p : ℕ) → closed_at before p ≤ n) → (p : ℕ) → closed_at after p ≤ n
  same_closed n most p = let e = same.closed p in let m = most p in omega arith

-- One buffer changed.
module _ {A : Type 0} (before after : Places A) (place buffer : ℕ) (new : Contents) (is : IsChangedAt before after place buffer new) where
  at_key : (p b : ℕ) → ((p == place) && (b == buffer)) ≡ true → (p ≡ place) × (b ≡ buffer)
  at_key p b e = let parts = and_parts (p == place) (b == buffer) e in (eqb-true p place parts.0, eqb-true b buffer parts.1)

  one_buffer : (change : BufferState → BufferState) → buffer_of new ≡ change (buffer_of (contents_at before place buffer)) → (p b : ℕ) (t : Bool) → (t ≡ true → (p ≡ place) × (b ≡ buffer))
      → buffer_of (cond t new (contents_at before p b)) ≡ cond t (change (buffer_of (contents_at before p b))) (buffer_of (contents_at before p b))
  one_buffer change e p b true key = let k = key refl in rw k.0 (rw k.1 e)
  one_buffer change e p b false key = refl

  pub changed_world : (book : Book) (change : BufferState → BufferState) → buffer_of new ≡ change (buffer_of (contents_at before place buffer)) → world_from after book ≡ with_buffer (world_from before book) place buffer change
  changed_world book change e = λ i. record {
    buffers = λ p b. (ap buffer_of (is.contents p b) ∙ one_buffer change e p b ((p == place) && (b == buffer)) (at_key p b)) i;
    messages = book.messages;
    deliveries = deliveries_from (λ p. is.closed p i) 0 book.deliveries;
    acknowledged = book.acknowledged;
  }

  one_flag : (s : ℕ) → new.answered ≡ (contents_at before place buffer).answered → (p b : ℕ) (t : Bool) → (t ≡ true → (p ≡ place) × (b ≡ buffer)) → flag_at (cond t new (contents_at before p b)).answered s ≡ flag_at (contents_at before p b).answered s
  one_flag s e p b true key = let k = key refl in rw k.0 (rw k.1 (ap (λ (flags : List Bool). flag_at flags s) e))
  one_flag s e p b false key = refl

  pub changed_answers : (messages : List Message) → new.answered ≡ (contents_at before place buffer).answered → KnowAnswers before messages → KnowAnswers after messages
  changed_answers messages e know p b s = ap (λ (c : Contents). flag_at c.answered s) (is.contents p b) ∙ one_flag s e p b ((p == place) && (b == buffer)) (at_key p b) ∙ know p b s

  pub changed_closed : (n : ℕ) → ((p : ℕ) → closed_at before p ≤ n) → (p : ℕ) → closed_at after p ≤ n
  changed_closed n most p = let e = is.closed p in let m = most p in omega arith

-- A live chunk changed.
pub chunk_world : {A : Type 0} (before after : Places A) (book : Book) (found : Found) (change : Chunk → Option Chunk) → found.serial < length (contents_at before found.place found.buffer).chunks
    → IsChangedAt before after found.place found.buffer (record (contents_at before found.place found.buffer) { chunks = changed (contents_at before found.place found.buffer).chunks found.serial change })
    → world_from after book ≡ with_found (world_from before book) found change
chunk_world before after book found change h is =
    changed_world before after found.place found.buffer _ is book (λ state. with_chunk found.serial (option_and_then change (state.chunks found.serial)) state)
    (buffer_of-changed (contents_at before found.place found.buffer) found.serial change h)

-- Entries of a live chunk were stored.
pub sink_world : {A : Type 0} (before after : Places A) (book : Book) (found : Found) (those : List (List ℕ) → List (List ℕ))
    → IsChangedAt before after found.place found.buffer (record (contents_at before found.place found.buffer) { sink = (contents_at before found.place found.buffer).sink ++ option_map_or (λ chunk. events_of chunk.tag (those chunk.entries)) (chunk_at (contents_at before found.place found.buffer).chunks found.serial) [] })
    → world_from after book ≡ stored_found (world_from before book) found those
sink_world before after book found those is =
    changed_world before after found.place found.buffer _ is book
    (λ state. record state { sink = state.sink ++ option_map_or (λ chunk. events_of chunk.tag (those chunk.entries)) (state.chunks found.serial) [] }) refl

-- Where a chunk lives there is room for its buffer.

within_buffers : (buffers : List Contents) (b s : ℕ) (chunk : Chunk) → chunk_at (contents_of buffers b).chunks s ≡ Some chunk → b < length buffers
within_buffers [] b s chunk e = absurd (cc)
within_buffers (x ∷ buffers) zero s chunk e = omega arith
within_buffers (x ∷ buffers) (suc b) s chunk e = let w = within_buffers buffers b s chunk e in omega arith

within_places : {A : Type 0} (list : List (Place A)) (p b s : ℕ) (chunk : Chunk) → chunk_at (contents_in list p b).chunks s ≡ Some chunk → IsSomeAnd (slice_get list p) (λ place. b < length place.buffers.items)
within_places [] p b s chunk e = absurd (cc)
within_places (x ∷ list) zero b s chunk e = within_buffers x.buffers.items b s chunk e
within_places (x ∷ list) (suc p) b s chunk e = within_places list p b s chunk e

-- what holds where a call succeeded
pub on_ok : {X E : Type 0} (r : Result X E) (P Q : Type 0) → OnOk r P → (P → Q) → OnOk r Q
on_ok (Ok x) P Q h f = f h
on_ok (Err e) P Q h f = h

-- an option with a value
some_of : {X : Type 0} (o : Option X) (P : X → Type 0) → IsSomeAnd o P → (x : X) × (o ≡ Some x)
some_of None P h = absurd h
some_of (Some x) P h = (x, refl)

module _ {A : Type 0} (places : Places A) (p b s : ℕ) (P : Chunk → Type 0) (live : IsSomeAnd (chunk_at (contents_at places p b).chunks s) P) where
  pub live_there : IsThere places p b
  live_there = let c = some_of (chunk_at (contents_at places p b).chunks s) P live in within_places places.list.items p b s c.0 c.1

  pub live_within : s < length (contents_at places p b).chunks
  live_within = let c = some_of (chunk_at (contents_at places p b).chunks s) P live in chunk_at_within (contents_at places p b).chunks s c.0 c.1

pub is_within : (chunks : List (Option Chunk)) (s : ℕ) → IsSome (chunk_at chunks s) → s < length chunks
is_within [] s h = absurd (false≢true h)
is_within (c ∷ chunks) zero h = omega arith
is_within (c ∷ chunks) (suc s) h = let w = is_within chunks s h in omega arith

-- Entries were appended.

grown_is : (contents : Contents) (tag : List ℕ) (entries : List (List ℕ)) (serial : ℕ) (chunk : Chunk) → chunk_at contents.chunks serial ≡ Some chunk
    → buffer_of (record contents { chunks = taken_in contents.chunks serial tag entries }) ≡ appended_to tag entries serial (buffer_of contents)
grown_is contents tag entries serial chunk e =
    let inside = chunk_at_within contents.chunks serial chunk e in
    rw (lt-ltb serial (length contents.chunks) inside, e)
    (rw e at (buffer_of-changed contents serial (longer entries) inside))

pushed_is : (contents : Contents) (tag : List ℕ) (entries : List (List ℕ)) (serial : ℕ) → serial ≡ length contents.chunks
    → buffer_of (record contents { chunks = taken_in contents.chunks serial tag entries }) ≡ appended_to tag entries serial (buffer_of contents)
pushed_is contents tag entries serial e =
    let none = chunk_at_past contents.chunks serial (omega arith) in
    rw (le-ltb serial (length contents.chunks) (omega arith), none)
    (λ i. record {
      chunks = λ s. (chunk_at-push contents.chunks (Some (new_chunk tag entries)) s ∙ ap (λ n. cond (s == n) (Some (new_chunk tag entries)) (chunk_at contents.chunks s)) (sym e)) i;
      next = (length_push contents.chunks (Some (new_chunk tag entries)) ∙ ap (λ n. n + 1) (sym e)) i;
      sink = contents.sink;
    })

pub buffer_of-taken_in : (contents : Contents) (tag : List ℕ) (entries : List (List ℕ)) (serial : ℕ) → CanTake (buffer_of contents) tag serial
    → buffer_of (record contents { chunks = taken_in contents.chunks serial tag entries }) ≡ appended_to tag entries serial (buffer_of contents)
buffer_of-taken_in contents tag entries serial h = elim h as (λ _. buffer_of (record contents { chunks = taken_in contents.chunks serial tag entries }) ≡ appended_to tag entries serial (buffer_of contents)) [
  | inl live ↦ let found = some_of (chunk_at contents.chunks serial) _ live in grown_is contents tag entries serial found.0 found.1
  | inr next ↦ pushed_is contents tag entries serial next
]

-- A relay started again.

chunk_at-restarted : (chunks : List (Option Chunk)) (serial : ℕ) → chunk_at (map (option_map restarted) chunks) serial ≡ option_map restarted (chunk_at chunks serial)
chunk_at-restarted [] serial = refl
chunk_at-restarted (c ∷ chunks) zero = refl
chunk_at-restarted (c ∷ chunks) (suc serial) = chunk_at-restarted chunks serial

pub buffer_of-restarted : (in_memory : Bool) (contents : Contents) → buffer_of (restarted_contents in_memory contents) ≡ started_again in_memory (buffer_of contents)
buffer_of-restarted true contents = refl
buffer_of-restarted false contents = λ i. record {
  chunks = λ serial. chunk_at-restarted contents.chunks serial i;
  next = length-map contents.chunks (option_map restarted) i;
  sink = contents.sink;
}

pub cond-restarted : (t : Bool) (in_memory : Bool) (contents : Contents) → buffer_of (cond t (restarted_contents in_memory contents) contents) ≡ cond t (started_again in_memory (buffer_of contents)) (buffer_of contents)
cond-restarted true in_memory contents = buffer_of-restarted in_memory contents
cond-restarted false in_memory contents = refl

-- the world with a buffer changed by what does the same to it
pub with_buffer-same : (w : World) (place buffer : ℕ) (change other : BufferState → BufferState) → change (w.buffers place buffer) ≡ other (w.buffers place buffer) → with_buffer w place buffer change ≡ with_buffer w place buffer other
with_buffer-same w place buffer change other e = λ i. record w { buffers = λ p b. go p b ((p == place) && (b == buffer)) (key p b) i }
  where
    key : (p b : ℕ) → ((p == place) && (b == buffer)) ≡ true → (p ≡ place) × (b ≡ buffer)
    key p b t = let parts = and_parts (p == place) (b == buffer) t in (eqb-true p place parts.0, eqb-true b buffer parts.1)

    go : (p b : ℕ) (t : Bool) → (t ≡ true → (p ≡ place) × (b ≡ buffer)) → cond t (change (w.buffers p b)) (w.buffers p b) ≡ cond t (other (w.buffers p b)) (w.buffers p b)
    go p b true k = let at = k refl in rw at.0 (rw at.1 e)
    go p b false k = refl

-- these entries of a chunk that may be there, as events
abbrev first_events : (List (List ℕ) → List (List ℕ)) → Option Chunk → List Event
first_events those slot = option_map_or (λ chunk. events_of chunk.tag (those chunk.entries)) slot []

-- A step on the chunk that was found is that on the chunk of its name.
module _ {A : Type 0} (net : Network A) (w : World) (name : ChunkName) (found : Found) (f : IsFound net w name found) where
  pub named_changed : (v : World) (change : Chunk → Option Chunk) → with_found v found change ≡ with_named net v name change
  named_changed v change = rw (f.place_is, f.buffer_is, f.serial_is) refl

  pub named_stored : (those : List (List ℕ) → List (List ℕ)) → stored_found w found those ≡ with_stored net w name those
  named_stored those = rw (f.place_is, f.buffer_is, f.serial_is) refl

  -- so many first entries as it has are all of them
  pub stored_whole : stored_found w found (take found.look.count) ≡ stored_found w found (λ entries. entries)
  stored_whole =
      let all : take found.look.count f.chunk.entries ≡ f.chunk.entries = ap (λ (l : Look). take l.count f.chunk.entries) f.look_is ∙ take-length f.chunk.entries in
      let same : first_events (take found.look.count) ((w.buffers found.place found.buffer).chunks found.serial) ≡ first_events (λ entries. entries) ((w.buffers found.place found.buffer).chunks found.serial) =
      ap (first_events (take found.look.count)) f.chunk_is ∙ ap (events_of f.chunk.tag) all ∙ ap (first_events (λ entries. entries)) (sym f.chunk_is) in
      with_buffer-same w found.place found.buffer
      (λ state. record state { sink = state.sink ++ first_events (take found.look.count) (state.chunks found.serial) })
      (λ state. record state { sink = state.sink ++ first_events (λ entries. entries) (state.chunks found.serial) })
      (ap (λ (events : List Event). record (w.buffers found.place found.buffer) { sink = (w.buffers found.place found.buffer).sink ++ events }) same)

-- Entries that are stored leave the chunks.
pub chunks_stored : (w : World) (found : Found) (those : List (List ℕ) → List (List ℕ)) → chunk_of (stored_found w found those) found ≡ chunk_of w found
chunks_stored w found those = go ((found.place == found.place) && (found.buffer == found.buffer)) _
  where
    go : (t : Bool) (sink : List Event) → (cond t (record (w.buffers found.place found.buffer) { sink = sink }) (w.buffers found.place found.buffer)).chunks found.serial ≡ (w.buffers found.place found.buffer).chunks found.serial
    go true sink = refl
    go false sink = refl

-- A relay started again: its deliveries were closed, then its buffers.
pub restarted_world : {A : Type 0} (net : Network A) (before mid after : Places A) (book : Book) (place : ℕ) → ((p b : ℕ) → contents_at mid p b ≡ contents_at before p b) → ((p : ℕ) → closed_at mid p ≡ cond (p == place) (length book.deliveries) (closed_at before p))
    → AreRestarted net mid after place → ((p : ℕ) → closed_at after p ≡ closed_at mid p)
    → world_from after book ≡ record (world_from before book) {
      buffers = λ p b. cond (p == place) (started_again (is_in_memory net p b) ((world_from before book).buffers p b)) ((world_from before book).buffers p b);
      deliveries = map (λ d. cond (d.entrance.relay == place) (ended d) d) (world_from before book).deliveries;
    }
restarted_world net before mid after book place same closed started still = λ i. record {
  buffers = λ p b. (ap buffer_of (started p b) ∙ cond-restarted (p == place) (is_in_memory net p b) (contents_at mid p b)
      ∙ ap (λ (c : Contents). cond (p == place) (started_again (is_in_memory net p b) (buffer_of c)) (buffer_of c)) (same p b)) i;
  messages = book.messages;
  deliveries = all_closed (closed_at before) (closed_at after) place book.deliveries (λ p. still p ∙ closed p) i;
  acknowledged = book.acknowledged;
}
