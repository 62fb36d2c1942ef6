-- The steps that change buffers keep what is kept along branches.
use Rattle.std.proofs.Common.{◌≡◌, ◌≢◌, ℕ, ◌+◌, ◌<◌, ◌≤◌, true, false, List, Some, None, slice_get, refl, sym, ap, subst, ◌∙◌, ◌⊎◌, inl, inr, arith, Contains}
use Rattle.std.proofs.lemmas.Option.{same_Some}
use Rattle.std.proofs.lemmas.List.Elements.{Contains-append_left}
use Rattle.custody_store.specs.declared.chunk.Stage.TheVariants.{Staged, Queued}
use Rattle.custody_store.specs.Buffers.{Event, Chunk, BufferState, CanTake, appended_to}
use Rattle.custody_store.specs.Book.{Message}
use Rattle.custody_store.specs.declared.sender.Sender.TheVariants as sender
use Rattle.relay_net.specs.Network.{Network, is_in_memory}
use Rattle.custody_steps.specs.World.{World, with_buffer}
use Rattle.custody_core.proofs.Serials.{event_of}
use Rattle.custody_core.proofs.Safe.{Buffers, Ranking, KeepsAt, IsHeldFrom, IsOther, changed, at_buffer}
use Rattle.custody_core.proofs.Ranked.{Labelling, IsSentOn, IsRanked}
use Rattle.custody_core.proofs.Going.{IsLike}
use Rattle.custody_core.proofs.ChunkMoves.{put, put_at, marked, mark_held}
use Rattle.custody_core.proofs.QueueMoves.{IsDue, enqueued, now_at, queue_held}
use Rattle.custody_core.proofs.AppendMoves.{append_held, append_evident}
use Rattle.custody_core.proofs.SinkMoves.{fuller, in_file, IsAgain, again_sink, again_from, again_to}
use Rattle.custody_core.proofs.Along.{KeepsFrom, in_sink, in_chunk, went_on, AnsweredStay, Moves, each_moved}
use Rattle.custody_core.proofs.AlongRanked.{IsDelivered, IsEach, WasEvident, each_goes, ids_stay, was_appended, follow_same, was_evident}

module _ {A : Type 0} (net : Network A) (labelled : Labelling) (ranks : Ranking) (clock : ℕ) (w : World) (is : IsRanked net labelled ranks clock w) where
  -- the messages change, and the buffers stay
  pub same_moves : (messages : List Message) → AnsweredStay w.messages messages → Moves net ranks ranks 0 clock w.buffers w.buffers w.messages messages
  same_moves messages stay = record {
    sinks = λ p b event inside. inside;
    held = λ entry rank low high p b tag keeps held. in_chunk keeps held;
    stay = stay;
    ids = λ number message p b s at from keeps. (refl, ids_stay net labelled ranks clock w is number message p b s at from keeps);
  }

  -- One buffer changes.
  module _ (later : Ranking) (least place buffer : ℕ) (change : BufferState → BufferState) (elsewhere : (p b : ℕ) → IsOther place buffer p b → (s : ℕ) → later p b s ≡ ranks p b s) where
    abbrev new : Buffers
    new = changed w.buffers place buffer change

    -- what is held there now
    pub held_here : (entry : List ℕ) (rank : ℕ) (tag : List ℕ) → KeepsAt net place buffer → IsHeldFrom (later place buffer) rank (change (w.buffers place buffer)) (event_of tag entry) → KeepsFrom net later new w.messages entry rank place buffer tag
    held_here entry rank tag keeps held = elim (at_buffer w.buffers place buffer change place buffer) [
      | inl here ↦ in_chunk keeps (rw here.2 held)
      | inr there ↦ absurd (there.0 refl refl)
    ]

    pub stored_here : (entry : List ℕ) (rank : ℕ) (tag : List ℕ) → Contains (change (w.buffers place buffer)).sink (event_of tag entry) → KeepsFrom net later new w.messages entry rank place buffer tag
    stored_here entry rank tag stored = elim (at_buffer w.buffers place buffer change place buffer) [
      | inl here ↦ in_sink (rw here.2 stored)
      | inr there ↦ absurd (there.0 refl refl)
    ]

    pub at_moves : ((event : Event) → Contains (w.buffers place buffer).sink event → Contains (change (w.buffers place buffer)).sink event)
        → ((entry : List ℕ) (rank : ℕ) → least ≤ rank → rank ≤ clock → (tag : List ℕ) → KeepsAt net place buffer → IsHeldFrom (ranks place buffer) rank (w.buffers place buffer) (event_of tag entry) → KeepsFrom net later new w.messages entry rank place buffer tag)
        → ((number : ℕ) (message : Message) (s : ℕ) → slice_get w.messages number ≡ Some message → message.sender ≡ sender.Chunk place buffer s → KeepsAt net place buffer → later place buffer s ≡ ranks place buffer s)
        → Moves net ranks later least clock w.buffers new w.messages w.messages
    at_moves sink held ids = record {
      sinks = λ p b event inside. elim (at_buffer w.buffers place buffer change p b) [
        | inl here ↦ rw here.2 (sink event (rw (here.0, here.1) at inside))
        | inr there ↦ rw there.1 inside
      ];
      held = λ entry rank low high p b tag keeps h. elim (at_buffer w.buffers place buffer change p b) [
        | inl here ↦ rw (here.0, here.1) (held entry rank low high tag (rw (here.0, here.1) at keeps) (rw (here.0, here.1) at h))
        | inr there ↦ in_chunk keeps (record { serial = h.serial; chunk = h.chunk; there = rw there.1 h.there; inside = h.inside; ranked = rw (elsewhere p b there.0 h.serial) h.ranked })
      ];
      stay = λ number message at sure. at;
      ids = λ number message p b s at from keeps. (
        elim (at_buffer w.buffers place buffer change p b) [
          | inl here ↦ rw (here.0, here.1) (ids number message s at (rw (here.0, here.1) at from) (rw (here.0, here.1) at keeps))
          | inr there ↦ elsewhere p b there.0 s
        ],
        ids_stay net labelled ranks clock w is number message p b s at from keeps,
      );
    }

  -- A step that changes one buffer.
  module _ (each : IsEach net ranks w) (later : Ranking) (place buffer : ℕ) (change : BufferState → BufferState) where
    pub at_each : Moves net ranks later 0 clock w.buffers (changed w.buffers place buffer change) w.messages w.messages
        → ((p b s : ℕ) (chunk : Chunk) → (w.buffers p b).chunks s ≡ Some chunk → chunk.stage ≢ Staged → later p b s ≡ ranks p b s)
        → ((s : ℕ) (now : Chunk) → (change (w.buffers place buffer)).chunks s ≡ Some now → KeepsAt net place buffer → now.evidence ≡ true → (entry : List ℕ) → Contains now.entries entry
        → WasEvident w place buffer s now.tag entry ⊎ ((later place buffer s ≡ ranks place buffer s) × (ranks place buffer s < clock) × IsDelivered net ranks w.buffers w.messages place buffer s now.tag entry))
        → IsEach net later (with_buffer w place buffer change)
    at_each moves steady chunks = each_goes net labelled ranks later clock w (with_buffer w place buffer change) is each (record {
      moves = moves;
      steady = steady;
      chunks = λ p b s now at keeps sure entry inside. elim (at_buffer w.buffers place buffer change p b) [
        | inl here ↦ rw (here.0, here.1) (chunks s now (rw here.2 at at) (rw (here.0, here.1) at keeps) sure entry inside)
        | inr there ↦ inl (was_evident net labelled ranks clock w is p b s now now (rw there.1 at at) refl refl sure entry inside)
      ];
      messages = λ number m at sure. inl at;
      deliveries = λ number d at m there buffer inside. inl (was_appended net labelled ranks clock w is w.messages (follow_same net labelled ranks clock w is) number d at m there buffer inside);
      told = λ told inside. inl inside;
    })

  -- A live chunk changes.
  module _ (each : IsEach net ranks w) (place buffer serial : ℕ) (chunk : Chunk) (at : (w.buffers place buffer).chunks serial ≡ Some chunk) where
    abbrev before : BufferState
    before = w.buffers place buffer

    -- It is marked.
    pub mark_each : (mark : Chunk → Chunk) (like : IsLike chunk (mark chunk))
        → (KeepsAt net place buffer → (mark chunk).evidence ≡ true → (entry : List ℕ) → Contains chunk.entries entry
        → (chunk.evidence ≡ true) ⊎ ((chunk.stage ≢ Staged) × IsDelivered net ranks w.buffers w.messages place buffer serial chunk.tag entry))
        → IsEach net ranks (with_buffer w place buffer (marked net labelled ranks clock w is place buffer serial chunk at mark like))
    mark_each mark like evident =
        let change = marked net labelled ranks clock w is place buffer serial chunk at mark like in
        at_each each ranks place buffer change
        (at_moves ranks 0 place buffer change (λ p b other s. refl) (λ event inside. inside)
        (λ entry rank low high tag keeps held. held_here ranks 0 place buffer change (λ p b other s. refl) entry rank tag keeps (mark_held net labelled ranks clock w is place buffer serial chunk at mark like rank (event_of tag entry) held))
        (λ number message s there from keeps. refl))
        (λ p b s c there moved. refl)
        (λ s now there keeps sure entry inside. elim (put_at net labelled ranks clock w is place buffer serial chunk at (λ c. Some (mark c)) s) [
          | inl here ↦ (let is_now : mark chunk ≡ now = same_Some (mark chunk) now (sym here.1 ∙ there) in
              let yes_then : (mark chunk).evidence ≡ true = ap (λ (c : Chunk). c.evidence) is_now ∙ sure in
              let inside_mark : Contains (mark chunk).entries entry = subst (λ (c : Chunk). Contains c.entries entry) (sym is_now) inside in
              let inside_then : Contains chunk.entries entry = rw like.entries at inside_mark in
              rw (← is_now, here.0, like.tag) (elim (evident keeps yes_then entry inside_then) [
                | inl old ↦ inl (was_evident net labelled ranks clock w is place buffer serial chunk chunk at refl refl old entry inside_then)
                | inr delivered ↦ inr (refl, (is.chunks place buffer serial chunk at).ranked keeps delivered.0, delivered.1)
              ]))
          | inr apart ↦ inl (was_evident net labelled ranks clock w is place buffer s now now (sym apart.1 ∙ there) refl refl sure entry inside)
        ])

    -- It goes, which no buffer that keeps allows before its entries are delivered.
    module _ (delivered : KeepsAt net place buffer → (chunk.stage ≢ Staged) × ((entry : List ℕ) → Contains chunk.entries entry → IsDelivered net ranks w.buffers w.messages place buffer serial chunk.tag entry)) where
      abbrev without : BufferState → BufferState
      without = put net labelled ranks clock w is place buffer serial chunk at (λ c. None)

      -- a chunk that was there at another serial is
      apart_held : (entry : List ℕ) (rank : ℕ) (tag : List ℕ) → KeepsAt net place buffer → (held : IsHeldFrom (ranks place buffer) rank before (event_of tag entry)) → (without before).chunks held.serial ≡ before.chunks held.serial
          → KeepsFrom net ranks (changed w.buffers place buffer without) w.messages entry rank place buffer tag
      apart_held entry rank tag keeps held same = held_here ranks 0 place buffer without (λ p b other s. refl) entry rank tag keeps (record { serial = held.serial; chunk = held.chunk; there = same ∙ held.there; inside = held.inside; ranked = held.ranked })

      -- what ranks above the chunk is kept without it
      above_moves : Moves net ranks ranks (ranks place buffer serial + 1) clock w.buffers (changed w.buffers place buffer without) w.messages w.messages
      above_moves = at_moves ranks (ranks place buffer serial + 1) place buffer without (λ p b other s. refl) (λ event inside. inside)
          (λ entry rank low high tag keeps held. elim (put_at net labelled ranks clock w is place buffer serial chunk at (λ c. None) held.serial) [
            | inl here ↦ absurd (let same : held.chunk ≡ chunk = same_Some held.chunk chunk (sym held.there ∙ ap before.chunks here.0 ∙ at) in
                elim held.ranked [
                  | inl staged ↦ (delivered keeps).0 (ap (λ (c : Chunk). c.stage) (sym same) ∙ staged)
                  | inr above ↦ (let above_here : rank ≤ ranks place buffer serial = rw here.0 at above in omega (arith, low, above_here))
                ])
            | inr apart ↦ apart_held entry rank tag keeps held apart.1
          ])
          (λ number message s there from keeps. refl)

      -- what it had is kept where it went
      gone_held : (entry : List ℕ) (rank : ℕ) → KeepsAt net place buffer → rank ≤ ranks place buffer serial → ranks place buffer serial < clock → Contains chunk.entries entry
          → KeepsFrom net ranks (changed w.buffers place buffer without) w.messages entry rank place buffer chunk.tag
      gone_held entry rank keeps low less inside = elim ((delivered keeps).1 entry inside) [
        | inl stored ↦ stored_here ranks 0 place buffer without (λ p b other s. refl) entry rank chunk.tag stored
        | inr gone ↦ (let on = gone.on in
            let e = each_moved net ranks ranks (ranks place buffer serial + 1) clock w.buffers (changed w.buffers place buffer without) w.messages w.messages above_moves
            (ranks place buffer serial + 1) gone.message.address gone.message.tag entry (omega arith) (omega (arith, less)) gone.each in
            went_on serial gone.number gone.message keeps low on e.place e.buffer e.borne e.leaf e.each)
      ]

      gone_moves : Moves net ranks ranks 0 clock w.buffers (changed w.buffers place buffer without) w.messages w.messages
      gone_moves = at_moves ranks 0 place buffer without (λ p b other s. refl) (λ event inside. inside)
          (λ entry rank low high tag keeps held. elim (put_at net labelled ranks clock w is place buffer serial chunk at (λ c. None) held.serial) [
            | inl here ↦ (let same : held.chunk ≡ chunk = same_Some held.chunk chunk (sym held.there ∙ ap before.chunks here.0 ∙ at) in
                let not_staged = (delivered keeps).0 in
                let less = (is.chunks place buffer serial chunk at).ranked keeps not_staged in
                let inside : Contains chunk.entries entry = rw same at held.inside.entry in
                let tag_is : chunk.tag ≡ tag = ap (λ (c : Chunk). c.tag) (sym same) ∙ held.inside.tag in
                elim held.ranked [
                  | inl staged ↦ absurd (not_staged (ap (λ (c : Chunk). c.stage) (sym same) ∙ staged))
                  | inr above ↦ (let above_here : rank ≤ ranks place buffer serial = rw here.0 at above in rw (← tag_is) (gone_held entry rank keeps above_here less inside))
                ])
            | inr apart ↦ apart_held entry rank tag keeps held apart.1
          ])
          (λ number message s there from keeps. refl)

      pub gone_each : IsEach net ranks (with_buffer w place buffer without)
      gone_each = at_each each ranks place buffer without gone_moves (λ p b s c there moved. refl)
          (λ s now there keeps sure entry inside. elim (put_at net labelled ranks clock w is place buffer serial chunk at (λ c. None) s) [
            | inl here ↦ absurd (let e = sym here.1 ∙ there in cc)
            | inr apart ↦ inl (was_evident net labelled ranks clock w is place buffer s now now (sym apart.1 ∙ there) refl refl sure entry inside)
          ])

    -- It was staged, and is queued.
    module _ (staged : chunk.stage ≡ Staged) (due : IsDue net ranks clock place buffer serial) where
      abbrev queued : BufferState → BufferState
      queued = enqueued net labelled ranks clock w is place buffer serial chunk at staged due

      pub queue_each : IsEach net ranks (with_buffer w place buffer queued)
      queue_each = at_each each ranks place buffer queued
          (at_moves ranks 0 place buffer queued (λ p b other s. refl) (λ event inside. inside)
          (λ entry rank low high tag keeps held. held_here ranks 0 place buffer queued (λ p b other s. refl) entry rank tag keeps (queue_held net labelled ranks clock w is place buffer serial chunk at staged due rank (event_of tag entry) keeps high held))
          (λ number message s there from keeps. refl))
          (λ p b s c there moved. refl)
          (λ s now there keeps sure entry inside. elim (now_at net labelled ranks clock w is place buffer serial chunk at staged due s) [
            | inl here ↦ absurd (let is_now : record chunk { stage = Queued } ≡ now = same_Some (record chunk { stage = Queued }) now (sym here.1 ∙ there) in
                let yes_then : chunk.evidence ≡ true = ap (λ (c : Chunk). c.evidence) is_now ∙ sure in
                ((is.chunks place buffer serial chunk at).evident keeps yes_then).0 staged)
            | inr apart ↦ inl (was_evident net labelled ranks clock w is place buffer s now now (sym apart.1 ∙ there) refl refl sure entry inside)
          ])

  -- More is stored in a sink.
  pub fuller_each : IsEach net ranks w → (place buffer : ℕ) (more : BufferState → List Event) → IsEach net ranks (with_buffer w place buffer (fuller net labelled ranks clock w is place buffer more))
  fuller_each each place buffer more =
      let change = fuller net labelled ranks clock w is place buffer more in
      at_each each ranks place buffer change
      (at_moves ranks 0 place buffer change (λ p b other s. refl) (λ event inside. Contains-append_left (w.buffers place buffer).sink (more (w.buffers place buffer)) event inside)
      (λ entry rank low high tag keeps held. held_here ranks 0 place buffer change (λ p b other s. refl) entry rank tag keeps (record { serial = held.serial; chunk = held.chunk; there = held.there; inside = held.inside; ranked = held.ranked }))
      (λ number message s there from keeps. refl))
      (λ p b s c there moved. refl)
      (λ s now there keeps sure entry inside. inl (was_evident net labelled ranks clock w is place buffer s now now there refl refl sure entry inside))

  -- A buffer that doesn't keep loses chunks.
  pub loose_each : IsEach net ranks w → (place buffer : ℕ) (change : BufferState → BufferState) → (KeepsAt net place buffer → ⊥) → (change (w.buffers place buffer)).sink ≡ (w.buffers place buffer).sink → IsEach net ranks (with_buffer w place buffer change)
  loose_each each place buffer change lets_go sink =
      at_each each ranks place buffer change
      (at_moves ranks 0 place buffer change (λ p b other s. refl) (λ event inside. rw sink inside)
      (λ entry rank low high tag keeps held. absurd (lets_go keeps))
      (λ number message s there from keeps. refl))
      (λ p b s c there moved. refl)
      (λ s now there keeps sure entry inside. absurd (lets_go keeps))

  -- Entries are appended.
  pub append_each : IsEach net ranks w → (place buffer : ℕ) (tag : List ℕ) (entries : List (List ℕ)) (serial : ℕ) → IsSentOn net labelled place buffer tag → CanTake (w.buffers place buffer) tag serial → IsEach net ranks (with_buffer w place buffer (appended_to tag entries serial))
  append_each each place buffer tag entries serial sent_on can =
      let change = appended_to tag entries serial in
      at_each each ranks place buffer change
      (at_moves ranks 0 place buffer change (λ p b other s. refl) (λ event inside. inside)
      (λ entry rank low high t keeps held. held_here ranks 0 place buffer change (λ p b other s. refl) entry rank t keeps (append_held net labelled ranks clock w is place buffer tag entries serial sent_on can rank (event_of t entry) held))
      (λ number message s there from keeps. refl))
      (λ p b s c there moved. refl)
      (λ s now there keeps sure entry inside. inl (was_evident net labelled ranks clock w is place buffer s now now (append_evident net labelled ranks clock w is place buffer tag entries serial sent_on can keeps s now there sure) refl refl sure entry inside))

  -- A relay starts again.
  module _ (each : IsEach net ranks w) (new : Buffers) (are : (place buffer : ℕ) → IsAgain (w.buffers place buffer) (is_in_memory net place buffer) (new place buffer)) where
    file_again : (place buffer : ℕ) → KeepsAt net place buffer → IsAgain (w.buffers place buffer) false (new place buffer)
    file_again place buffer keeps = rw (in_file net place buffer keeps) at (are place buffer)

    pub again_each : IsEach net ranks (record w { buffers = new })
    again_each = each_goes net labelled ranks ranks clock w (record w { buffers = new }) is each (record {
      moves = record {
        sinks = λ p b event inside. rw (again_sink (w.buffers p b) (is_in_memory net p b) (new p b) (are p b)) inside;
        held = λ entry rank low high p b tag keeps h. (let n = again_to (w.buffers p b) (new p b) (file_again p b keeps) h.serial h.chunk h.there in
            in_chunk keeps (record {
              serial = h.serial;
              chunk = n.0;
              there = n.1;
              inside = record { tag = n.2.tag ∙ h.inside.tag; entry = rw n.2.entries h.inside.entry };
              ranked = elim h.ranked [ inl staged ↦ inl (n.2.still staged) | inr above ↦ inr above ];
            }));
        stay = λ number message at sure. at;
        ids = λ number message p b s at from keeps. (refl, ids_stay net labelled ranks clock w is number message p b s at from keeps);
      };
      steady = λ p b s c there moved. refl;
      chunks = λ p b s now there keeps sure entry inside. (let c = again_from (w.buffers p b) (is_in_memory net p b) (new p b) (are p b) s now there in
          inl (was_evident net labelled ranks clock w is p b s c.0 now c.1 c.2.tag c.2.entries (c.3 sure) entry inside));
      messages = λ number m at sure. inl at;
      deliveries = λ number d at m there buffer inside. inl (was_appended net labelled ranks clock w is w.messages (follow_same net labelled ranks clock w is) number d at m there buffer inside);
      told = λ told inside. inl inside;
    })
