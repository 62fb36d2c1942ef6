-- The steps that change one chunk, or a sink, keep what is known of a network.
use Rattle.std.proofs.Common.{◌≡◌, ◌≢◌, ℕ, ◌+◌, ◌<◌, ◌≤◌, true, List, Option, Some, None, refl, sym, ap, ◌∙◌, ◌⊎◌, inl, inr, arith}
use Rattle.std.proofs.lemmas.Bool.{cases_lt}
use Rattle.std.proofs.lemmas.Option.{same_Some}
use Rattle.std.specs.Option.{option_and_then}
use Rattle.custody_store.specs.declared.chunk.Stage.TheVariants.{Staged}
use Rattle.custody_store.specs.Buffers.{Event, Chunk, BufferState, IsInChunk, with_chunk}
use Rattle.relay_net.specs.Network.{Network}
use Rattle.custody_steps.specs.World.{World, with_buffer}
use Rattle.custody_core.proofs.Borne.{Origin, Bears}
use Rattle.custody_core.proofs.Serials.{event_of, at_serial}
use Rattle.custody_core.proofs.Safe.{Buffers, Ranking, KeepsAt, IsHeldFrom, IsSafe, changed, safe_below, safe_changed, safe_here}
use Rattle.custody_core.proofs.Ranked.{Labelling, IsIdOf, AreSafeOnward, IsRanked}
use Rattle.custody_core.proofs.Going.{GoesOn, IsLike, like_itself, Changes, change_goes, chunk_goes, buffer_goes}

-- a chunk has the events of one that it is like
like_inside : (old new : Chunk) (event : Event) → IsLike old new → IsInChunk old event → IsInChunk new event
like_inside old new event like inside = record { tag = like.tag ∙ inside.tag; entry = rw like.entries inside.entry }

module _ {A : Type 0} (net : Network A) (labelled : Labelling) (ranks : Ranking) (clock : ℕ) (w : World) (is : IsRanked net labelled ranks clock w) (place buffer serial : ℕ) (chunk : Chunk) (at : (w.buffers place buffer).chunks serial ≡ Some chunk) where
  abbrev before : BufferState
  before = w.buffers place buffer

  -- the buffer with the chunk changed
  abbrev pub put : (Chunk → Option Chunk) → BufferState → BufferState
  put new state = with_chunk serial (option_and_then new (state.chunks serial)) state

  -- the live chunk's serial was given
  pub given : serial < before.next
  given = elim (cases_lt serial before.next) [
    | inl less ↦ less
    | inr le ↦ absurd (let none = is.below place buffer serial le in let e = sym at ∙ none in cc)
  ]

  -- what stands at a serial after the change
  pub put_at : (new : Chunk → Option Chunk) (other : ℕ) → ((other ≡ serial) × ((put new before).chunks other ≡ new chunk)) ⊎ ((other ≢ serial) × ((put new before).chunks other ≡ before.chunks other))
  put_at new other = elim (at_serial before serial other (option_and_then new (before.chunks serial))) [
    | inl here ↦ inl (here.0, here.1 ∙ ap (option_and_then new) at)
    | inr there ↦ inr there
  ]

  pub put_below : (new : Chunk → Option Chunk) (other : ℕ) → before.next ≤ other → (put new before).chunks other ≡ None
  put_below new other le = elim (put_at new other) [
    | inl here ↦ absurd (let less = given in let e = here.0 in omega arith)
    | inr there ↦ there.1 ∙ is.below place buffer other le
  ]

  -- The chunk is marked: it has what it had, and is staged if it was.
  module _ (mark : Chunk → Chunk) (like : IsLike chunk (mark chunk)) where
    abbrev pub marked : BufferState → BufferState
    marked = put (λ c. Some (mark c))

    pub mark_held : (rank : ℕ) (event : Event) → IsHeldFrom (ranks place buffer) rank before event → IsHeldFrom (ranks place buffer) rank (marked before) event
    mark_held rank event held = elim (put_at (λ c. Some (mark c)) held.serial) [
      | inl here ↦ (let same : held.chunk ≡ chunk = same_Some held.chunk chunk (sym held.there ∙ ap before.chunks here.0 ∙ at) in record {
        serial = held.serial;
        chunk = mark chunk;
        there = here.1;
        inside = like_inside chunk (mark chunk) event like (rw same at held.inside);
        ranked = elim held.ranked [ inl staged ↦ inl (like.still (ap (λ (c : Chunk). c.stage) (sym same) ∙ staged)) | inr high ↦ inr high ];
      })
      | inr there ↦ record { serial = held.serial; chunk = held.chunk; there = there.1 ∙ held.there; inside = held.inside; ranked = held.ranked }
    ]

    mark_ids : (other : ℕ) (tag : List ℕ) (entries : List (List ℕ)) → IsIdOf (ranks place buffer) clock before other tag entries → IsIdOf (ranks place buffer) clock (marked before) other tag entries
    mark_ids other tag entries id = record {
      ranked = id.ranked;
      given = id.given;
      same = λ now there. elim (put_at (λ c. Some (mark c)) other) [
        | inl here ↦ (let is_now : mark chunk ≡ now = same_Some (mark chunk) now (sym here.1 ∙ there) in
            let old = id.same chunk (ap before.chunks here.0 ∙ at) in
            rw (← is_now) (λ e. old.0 (like.staged e), like.tag ∙ old.1, like.entries ∙ old.2))
        | inr apart ↦ id.same now (sym apart.1 ∙ there)
      ];
    }

    mark_changes : Changes net labelled ranks clock w ranks clock place buffer marked
    mark_changes = record {
      time = omega arith;
      elsewhere = λ p b other s. refl;
      sink = λ event inside. inside;
      held = λ rank origin tag le borne keeps held. safe_here net ranks w.buffers place buffer marked rank origin tag borne keeps (mark_held rank (event_of tag origin.entry) held);
      ids = λ keeps other tag entries id. (mark_ids other tag entries id, refl);
      back = λ p b keeps serial less. inl less;
    }

    abbrev after : Buffers
    after = changed w.buffers place buffer marked

    pub mark_goes : GoesOn net ranks clock w.buffers ranks clock after
    mark_goes = change_goes net labelled ranks clock w ranks clock place buffer marked mark_changes

    -- the mark says that the chunk has evidence only where its events are safe elsewhere
    pub mark_ranked : (KeepsAt net place buffer → (mark chunk).evidence ≡ true → ((mark chunk).stage ≢ Staged) × AreSafeOnward net ranks clock w.buffers (ranks place buffer serial + 1) place buffer chunk.tag chunk.entries)
        → IsRanked net labelled ranks clock (with_buffer w place buffer marked)
    mark_ranked evident = buffer_goes net labelled ranks clock w ranks clock place buffer marked mark_changes (put_below (λ c. Some (mark c)))
        (λ other now there. elim (put_at (λ c. Some (mark c)) other) [
          | inl here ↦ (let is_now : mark chunk ≡ now = same_Some (mark chunk) now (sym here.1 ∙ there) in
              let known = is.chunks place buffer serial chunk at in
              rw (← is_now, here.0) (record {
                sent_on = rw like.tag known.sent_on;
                ranked = λ keeps moved. known.ranked keeps (λ e. moved (like.still e));
                evident = λ keeps yes. (let h = evident keeps yes in
                    let less = known.ranked keeps (λ e. h.0 (like.still e)) in
                    (h.0, λ origin borne inside. mark_goes.safe (ranks place buffer serial + 1) origin (omega arith) (h.1 origin (rw like.tag at borne) (rw like.entries at inside))));
              }))
          | inr apart ↦ chunk_goes net labelled ranks clock w.buffers ranks clock after mark_goes place buffer other now now refl (like_itself now) (λ e. e) (is.chunks place buffer other now (sym apart.1 ∙ there))
        ])
        is

  -- The chunk goes, which no buffer that keeps allows before its events are safe elsewhere.
  module _ (delivered : KeepsAt net place buffer → (chunk.stage ≢ Staged) × AreSafeOnward net ranks clock w.buffers (ranks place buffer serial + 1) place buffer chunk.tag chunk.entries) where
    abbrev pub gone : BufferState → BufferState
    gone = put (λ c. None)

    abbrev without : Buffers
    without = changed w.buffers place buffer gone

    -- What is held above the chunk's own rank is held elsewhere.
    above_own : (rank : ℕ) (origin : Origin) (tag : List ℕ) → Bears net origin place buffer tag → KeepsAt net place buffer → ranks place buffer serial < rank → IsHeldFrom (ranks place buffer) rank before (event_of tag origin.entry) → IsSafe net ranks without rank origin
    above_own rank origin tag borne keeps less held = elim (put_at (λ c. None) held.serial) [
      | inl here ↦ absurd (let same : held.chunk ≡ chunk = same_Some held.chunk chunk (sym held.there ∙ ap before.chunks here.0 ∙ at) in
          elim held.ranked [
            | inl staged ↦ (delivered keeps).0 (ap (λ (c : Chunk). c.stage) (sym same) ∙ staged)
            | inr high ↦ (let high_here : rank ≤ ranks place buffer serial = rw here.0 at high in omega arith)
          ])
      | inr there ↦ safe_here net ranks w.buffers place buffer gone rank origin tag borne keeps (record { serial = held.serial; chunk = held.chunk; there = there.1 ∙ held.there; inside = held.inside; ranked = held.ranked })
    ]

    safe_above : (rank : ℕ) (origin : Origin) → ranks place buffer serial < rank → IsSafe net ranks w.buffers rank origin → IsSafe net ranks without rank origin
    safe_above rank origin less safe = safe_changed net ranks ranks w.buffers place buffer gone rank origin (λ p b other s. refl) (λ event inside. inside) (λ tag borne keeps held. above_own rank origin tag borne keeps less held) safe

    -- an event that was held in the buffer is safe still
    gone_held : (rank : ℕ) (origin : Origin) (tag : List ℕ) → Bears net origin place buffer tag → KeepsAt net place buffer → IsHeldFrom (ranks place buffer) rank before (event_of tag origin.entry) → IsSafe net ranks without rank origin
    gone_held rank origin tag borne keeps held = elim (put_at (λ c. None) held.serial) [
      | inl here ↦ (let same : held.chunk ≡ chunk = same_Some held.chunk chunk (sym held.there ∙ ap before.chunks here.0 ∙ at) in
          let d = delivered keeps in
          let inside : IsInChunk chunk (event_of tag origin.entry) = rw same at held.inside in
          let old : IsSafe net ranks w.buffers (ranks place buffer serial + 1) origin = d.1 origin (rw (← inside.tag) at borne) inside.entry in
          elim held.ranked [
            | inl staged ↦ absurd (d.0 (ap (λ (c : Chunk). c.stage) (sym same) ∙ staged))
            | inr high ↦ (let high_here : rank ≤ ranks place buffer serial = rw here.0 at high in
                safe_below net ranks without (ranks place buffer serial + 1) rank origin (omega arith) (safe_above (ranks place buffer serial + 1) origin (omega arith) old))
          ])
      | inr there ↦ safe_here net ranks w.buffers place buffer gone rank origin tag borne keeps (record { serial = held.serial; chunk = held.chunk; there = there.1 ∙ held.there; inside = held.inside; ranked = held.ranked })
    ]

    gone_changes : Changes net labelled ranks clock w ranks clock place buffer gone
    gone_changes = record {
      time = omega arith;
      elsewhere = λ p b other s. refl;
      sink = λ event inside. inside;
      held = λ rank origin tag le borne keeps held. gone_held rank origin tag borne keeps held;
      ids = λ keeps other tag entries id. (
        record {
          ranked = id.ranked;
          given = id.given;
          same = λ now there. elim (put_at (λ c. None) other) [
            | inl here ↦ absurd (let e = sym here.1 ∙ there in cc)
            | inr apart ↦ id.same now (sym apart.1 ∙ there)
          ];
        },
        refl,
      );
      back = λ p b keeps serial less. inl less;
    }

    pub gone_ranked : IsRanked net labelled ranks clock (with_buffer w place buffer gone)
    gone_ranked = buffer_goes net labelled ranks clock w ranks clock place buffer gone gone_changes (put_below (λ c. None))
        (λ other now there. elim (put_at (λ c. None) other) [
          | inl here ↦ absurd (let e = sym here.1 ∙ there in cc)
          | inr apart ↦ chunk_goes net labelled ranks clock w.buffers ranks clock without (change_goes net labelled ranks clock w ranks clock place buffer gone gone_changes) place buffer other now now refl (like_itself now) (λ e. e) (is.chunks place buffer other now (sym apart.1 ∙ there))
        ])
        is
