-- What is known of a network stays known where what was safe is safe and ids keep their meaning.
use Rattle.std.proofs.Common.{◌≡◌, ℕ, ◌+◌, ◌<◌, ◌≤◌, true, List, Some, None, slice_get, refl, ◌⊎◌, inl, inr, arith, Contains}
use Rattle.std.proofs.lemmas.Bool.{cases_lt}
use Rattle.custody_store.specs.declared.chunk.Stage.TheVariants.{Staged}
use Rattle.custody_store.specs.Buffers.{Event, Chunk, BufferState}
use Rattle.custody_store.specs.Book.{Message, Delivery, Told}
use Rattle.custody_store.specs.declared.sender.Sender.{Sender}
use Rattle.custody_store.specs.declared.sender.Sender.TheVariants as sender
use Rattle.relay_net.specs.Addresses.{Address}
use Rattle.relay_net.specs.Network.{Network, address_of_client}
use Rattle.custody_steps.specs.World.{World, with_buffer}
use Rattle.custody_store.proofs.Lists.{some_and}
use Rattle.custody_core.proofs.Borne.{Origin, Bears}
use Rattle.custody_core.proofs.Serials.{event_of, and_some}
use Rattle.custody_core.proofs.Safe.{Buffers, Ranking, KeepsAt, IsHeldFrom, IsSafe, IsOther, changed, at_buffer, safe_changed}
use Rattle.custody_core.proofs.Ranked.{Labelling, IsIdOf, WasQueued, ArePassedOn, IsToldSafe, HasId, IsKnown, IsKnownChunk, IsKnownDelivery, IsRanked}

-- Buffers and ranks changed: what was safe is safe, and each id keeps its meaning and its rank.
pub record GoesOn {A : Type 0} (net : Network A) (ranks : Ranking) (clock : ℕ) (old : Buffers) (later : Ranking) (next : ℕ) (new : Buffers) : Type 0 where
  pub time : clock ≤ next
  pub safe : (rank : ℕ) (origin : Origin) → rank ≤ clock → IsSafe net ranks old rank origin → IsSafe net later new rank origin
  pub ids : (place buffer : ℕ) → KeepsAt net place buffer → (serial : ℕ) (tag : List ℕ) (entries : List (List ℕ)) → IsIdOf (ranks place buffer) clock (old place buffer) serial tag entries
      → IsIdOf (later place buffer) next (new place buffer) serial tag entries × (later place buffer serial ≡ ranks place buffer serial)
  pub back : (place buffer : ℕ) → KeepsAt net place buffer → (serial : ℕ) → later place buffer serial < next → (ranks place buffer serial < clock) ⊎ WasQueued (later place buffer) next (new place buffer) serial

-- The one chunk has what the other has; it is staged where the other is.
pub record IsLike (old new : Chunk) : Type 0 where
  pub tag : new.tag ≡ old.tag
  pub entries : new.entries ≡ old.entries
  pub staged : new.stage ≡ Staged → old.stage ≡ Staged
  pub still : old.stage ≡ Staged → new.stage ≡ Staged

pub like_itself : (chunk : Chunk) → IsLike chunk chunk
like_itself chunk = record { tag = refl; entries = refl; staged = λ e. e; still = λ e. e }

module _ {A : Type 0} (net : Network A) (labelled : Labelling) (ranks : Ranking) (clock : ℕ) (old : Buffers) (later : Ranking) (next : ℕ) (new : Buffers) (goes : GoesOn net ranks clock old later next new) where
  passed_goes : (s : Sender) (address : Address) (tag : List ℕ) (entries : List (List ℕ)) → HasId net ranks clock old s tag entries → ArePassedOn net ranks clock old s address tag entries → ArePassedOn net later next new s address tag entries
  passed_goes (sender.Client client) address tag entries id passed counts entry inside = goes.safe 0 (record { address = address; tag = tag; entry = entry }) (omega arith) (passed counts entry inside)
  passed_goes (sender.Chunk place buffer serial) address tag entries id passed counts entry inside =
      let known = id counts in
      let went = goes.ids place buffer counts serial tag entries known in
      let less = known.ranked in
      rw went.1 (goes.safe (ranks place buffer serial + 1) (record { address = address; tag = tag; entry = entry }) (omega arith) (passed counts entry inside))

  id_goes : (s : Sender) (tag : List ℕ) (entries : List (List ℕ)) → HasId net ranks clock old s tag entries → HasId net later next new s tag entries
  id_goes (sender.Client client) tag entries id = id
  id_goes (sender.Chunk place buffer serial) tag entries id = λ keeps. (goes.ids place buffer keeps serial tag entries (id keeps)).0

  pub known_goes : (message : Message) → IsKnown net ranks clock old labelled message → IsKnown net later next new labelled message
  known_goes message known = record {
    taken = known.taken;
    from = known.from;
    id = id_goes message.sender message.tag message.entries known.id;
    answered = λ yes. passed_goes message.sender message.address message.tag message.entries known.id (known.answered yes);
  }

  pub delivery_goes : (messages : List Message) (delivery : Delivery) → ((number : ℕ) (message : Message) → slice_get messages number ≡ Some message → IsKnown net ranks clock old labelled message)
      → IsKnownDelivery net ranks clock old labelled messages delivery → IsKnownDelivery net later next new labelled messages delivery
  delivery_goes messages delivery known d = record {
    message = d.message;
    there = d.there;
    enters = d.enters;
    tag_is = d.tag_is;
    short = d.short;
    taken = d.taken;
    appended = λ buffer inside keeps. passed_goes d.message.sender d.message.address d.message.tag d.message.entries (known delivery.message d.message d.there).id (d.appended buffer inside keeps);
  }

  -- a chunk that stays, but for evidence that goes
  pub chunk_goes : (place buffer serial : ℕ) (chunk now : Chunk) → later place buffer serial ≡ ranks place buffer serial → IsLike chunk now → (now.evidence ≡ true → chunk.evidence ≡ true)
      → IsKnownChunk net ranks clock old labelled place buffer serial chunk → IsKnownChunk net later next new labelled place buffer serial now
  chunk_goes place buffer serial chunk now rank_is like evidence known = record {
    sent_on = rw like.tag known.sent_on;
    ranked = λ keeps moved. (let less = known.ranked keeps (λ e. moved (like.still e)) in let time = goes.time in omega (arith, rank_is));
    evident = λ keeps yes. (let h = known.evident keeps (evidence yes) in
        let less = known.ranked keeps h.0 in (
          λ e. h.0 (like.staged e),
          λ origin borne inside.
              rw rank_is (goes.safe (ranks place buffer serial + 1) origin (omega arith) (h.1 origin (rw like.tag at borne) (rw like.entries at inside))),
        ));
  }

told_goes : {A : Type 0} (net : Network A) (ranks : Ranking) (clock : ℕ) (old : Buffers) (later : Ranking) (next : ℕ) (new : Buffers) → GoesOn net ranks clock old later next new → (told : Told) → IsToldSafe net ranks clock old told → IsToldSafe net later next new told
told_goes net ranks clock old later next new goes told h =
    let c = some_and (slice_get net.clients told.client) _ h in
    and_some (slice_get net.clients told.client) (λ client. IsSafe net later new 0 (record { address = address_of_client net client; tag = told.event.tag; entry = told.event.entry })) c.0 c.1 (goes.safe 0 _ (omega arith) c.2)

-- what was queued was queued before, or is now
queued_goes : {A : Type 0} (net : Network A) (labelled : Labelling) (ranks : Ranking) (clock : ℕ) (w : World) (later : Ranking) (next : ℕ) (new : Buffers) → GoesOn net ranks clock w.buffers later next new → IsRanked net labelled ranks clock w
    → (place buffer serial : ℕ) → KeepsAt net place buffer → later place buffer serial < next → WasQueued (later place buffer) next (new place buffer) serial
queued_goes net labelled ranks clock w later next new goes is place buffer serial keeps less = elim (goes.back place buffer keeps serial less) [
  | inl old ↦ (let q = is.queued place buffer serial keeps old in record { tag = q.tag; entries = q.entries; id = (goes.ids place buffer keeps serial q.tag q.entries q.id).0 })
  | inr now ↦ now
]

-- All is known of the world with these buffers.
pub world_goes : {A : Type 0} (net : Network A) (labelled : Labelling) (ranks : Ranking) (clock : ℕ) (w : World) (later : Ranking) (next : ℕ) (new : Buffers) → GoesOn net ranks clock w.buffers later next new
    → ((place buffer serial : ℕ) → (new place buffer).next ≤ serial → (new place buffer).chunks serial ≡ None)
    → ((place buffer serial : ℕ) (chunk : Chunk) → (new place buffer).chunks serial ≡ Some chunk → IsKnownChunk net later next new labelled place buffer serial chunk)
    → IsRanked net labelled ranks clock w → IsRanked net labelled later next (record w { buffers = new })
world_goes net labelled ranks clock w later next new goes below chunks is = record {
  below = below;
  chunks = chunks;
  queued = queued_goes net labelled ranks clock w later next new goes is;
  messages = λ number message at. known_goes net labelled ranks clock w.buffers later next new goes message (is.messages number message at);
  deliveries = λ number delivery at. delivery_goes net labelled ranks clock w.buffers later next new goes w.messages delivery is.messages (is.deliveries number delivery at);
  acknowledged = λ told inside. told_goes net ranks clock w.buffers later next new goes told (is.acknowledged told inside);
}

-- All is known a step later, if no chunk of a buffer that keeps has the time as its rank.
pub time_goes : {A : Type 0} (net : Network A) (labelled : Labelling) (ranks : Ranking) (clock : ℕ) (w : World) → IsRanked net labelled ranks clock w
    → ((place buffer serial : ℕ) → KeepsAt net place buffer → ranks place buffer serial ≡ clock → ⊥) → IsRanked net labelled ranks (clock + 1) w
time_goes net labelled ranks clock w is none =
    let goes : GoesOn net ranks clock w.buffers ranks (clock + 1) w.buffers = record {
      time = omega arith;
      safe = λ rank origin le safe. safe;
      ids = λ place buffer keeps serial tag entries id. (record { ranked = (let less = id.ranked in omega (arith, less)); given = id.given; same = id.same }, refl);
      back = λ place buffer keeps serial less. elim (cases_lt (ranks place buffer serial) clock) [
        | inl old ↦ inl old
        | inr le ↦ absurd (none place buffer serial keeps (omega (arith, le, less)))
      ];
    } in
    world_goes net labelled ranks clock w ranks (clock + 1) w.buffers goes is.below
    (λ place buffer serial chunk at. chunk_goes net labelled ranks clock w.buffers ranks (clock + 1) w.buffers goes place buffer serial chunk chunk refl (like_itself chunk) (λ e. e) (is.chunks place buffer serial chunk at))
    is

-- One buffer changed.
module _ {A : Type 0} (net : Network A) (labelled : Labelling) (ranks : Ranking) (clock : ℕ) (w : World) (later : Ranking) (next : ℕ) (place buffer : ℕ) (change : BufferState → BufferState) where
  -- What a change of one buffer must leave.
  pub record Changes : Type 0 where
    pub time : clock ≤ next
    pub elsewhere : (p b : ℕ) → IsOther place buffer p b → (s : ℕ) → later p b s ≡ ranks p b s
    pub sink : (event : Event) → Contains (w.buffers place buffer).sink event → Contains (change (w.buffers place buffer)).sink event
    pub held : (rank : ℕ) (origin : Origin) (tag : List ℕ) → rank ≤ clock → Bears net origin place buffer tag → KeepsAt net place buffer → IsHeldFrom (ranks place buffer) rank (w.buffers place buffer) (event_of tag origin.entry)
        → IsSafe net later (changed w.buffers place buffer change) rank origin
    pub ids : KeepsAt net place buffer → (serial : ℕ) (tag : List ℕ) (entries : List (List ℕ)) → IsIdOf (ranks place buffer) clock (w.buffers place buffer) serial tag entries
        → IsIdOf (later place buffer) next (change (w.buffers place buffer)) serial tag entries × (later place buffer serial ≡ ranks place buffer serial)
    pub back : (p b : ℕ) → KeepsAt net p b → (serial : ℕ) → later p b serial < next → (ranks p b serial < clock) ⊎ WasQueued (later p b) next (changed w.buffers place buffer change p b) serial

  pub change_goes : Changes → GoesOn net ranks clock w.buffers later next (changed w.buffers place buffer change)
  change_goes c = record {
    time = c.time;
    safe = λ rank origin le safe. safe_changed net ranks later w.buffers place buffer change rank origin c.elsewhere c.sink (λ tag borne. c.held rank origin tag le borne) safe;
    ids = λ p b keeps serial tag entries id. elim (at_buffer w.buffers place buffer change p b) [
      | inl here ↦ rw here.2 (rw (here.0, here.1) (c.ids (rw (here.0, here.1) at keeps) serial tag entries (rw (here.0, here.1) at id)))
      | inr there ↦ (let same = c.elsewhere p b there.0 serial in let less = id.ranked in let time = c.time in (record { ranked = omega (arith, same); given = rw there.1 id.given; same = λ chunk at. id.same chunk (rw there.1 at at) }, same))
    ];
    back = c.back;
  }

  -- All is known of the world after the change, if it is of the buffer that changed.
  pub buffer_goes : Changes → ((serial : ℕ) → (change (w.buffers place buffer)).next ≤ serial → (change (w.buffers place buffer)).chunks serial ≡ None)
      → ((serial : ℕ) (chunk : Chunk) → (change (w.buffers place buffer)).chunks serial ≡ Some chunk → IsKnownChunk net later next (changed w.buffers place buffer change) labelled place buffer serial chunk)
      → IsRanked net labelled ranks clock w → IsRanked net labelled later next (with_buffer w place buffer change)
  buffer_goes c below chunks is = world_goes net labelled ranks clock w later next (changed w.buffers place buffer change) (change_goes c)
      (λ p b serial le. elim (at_buffer w.buffers place buffer change p b) [
        | inl here ↦ rw here.2 (below serial (rw here.2 at le))
        | inr there ↦ rw there.1 (is.below p b serial (rw there.1 at le))
      ])
      (λ p b serial chunk at. elim (at_buffer w.buffers place buffer change p b) [
        | inl here ↦ rw (here.0, here.1) (chunks serial chunk (rw here.2 at at))
        | inr there ↦ chunk_goes net labelled ranks clock w.buffers later next (changed w.buffers place buffer change) (change_goes c) p b serial chunk chunk (c.elsewhere p b there.0 serial) (like_itself chunk) (λ e. e) (is.chunks p b serial chunk (rw there.1 at at))
      ])
      is
