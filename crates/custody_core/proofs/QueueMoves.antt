-- A staged chunk is queued, and gets its rank: the time, above which all was safe in it until then.
use Rattle.std.proofs.Common.{◌≡◌, ◌≢◌, ℕ, ◌+◌, ◌<◌, ◌≤◌, true, List, Some, refl, sym, ap, ◌∙◌, ◌⊎◌, inl, inr, arith}
use Rattle.std.proofs.lemmas.Bool.{cases_lt}
use Rattle.std.proofs.lemmas.Option.{same_Some}
use Rattle.custody_store.specs.declared.chunk.Stage.TheVariants.{Staged, Queued}
use Rattle.custody_store.specs.Buffers.{Event, Chunk, BufferState}
use Rattle.relay_net.specs.Network.{Network}
use Rattle.custody_steps.specs.World.{World, with_buffer}
use Rattle.custody_core.proofs.Serials.{event_of}
use Rattle.custody_core.proofs.Safe.{Ranking, KeepsAt, IsHeldFrom, changed, at_buffer, safe_here}
use Rattle.custody_core.proofs.Ranked.{Labelling, IsIdOf, WasQueued, IsKnownChunk, IsRanked}
use Rattle.custody_core.proofs.Going.{like_itself, Changes, change_goes, chunk_goes, buffer_goes}
use Rattle.custody_core.proofs.ChunkMoves.{put, put_at, put_below, given}

-- Of the chunks of buffers that keep this one alone may have the time as its rank, and it has none
-- that is later.
pub record IsDue {A : Type 0} (net : Network A) (ranks : Ranking) (clock place buffer serial : ℕ) : Type 0 where
  pub alone : (p b s : ℕ) → KeepsAt net p b → ranks p b s ≡ clock → (p ≡ place) × (b ≡ buffer) × (s ≡ serial)
  pub by_now : KeepsAt net place buffer → ranks place buffer serial ≤ clock

module _ {A : Type 0} (net : Network A) (labelled : Labelling) (ranks : Ranking) (clock : ℕ) (w : World) (is : IsRanked net labelled ranks clock w) (place buffer serial : ℕ) (chunk : Chunk) (at : (w.buffers place buffer).chunks serial ≡ Some chunk) (staged : chunk.stage ≡ Staged) (due : IsDue net ranks clock place buffer serial) where
  abbrev pub enqueued : BufferState → BufferState
  enqueued = put net labelled ranks clock w is place buffer serial chunk at (λ c. Some (record c { stage = Queued }))

  abbrev before : BufferState
  before = w.buffers place buffer

  pub now_at : (other : ℕ) → ((other ≡ serial) × ((enqueued before).chunks other ≡ Some (record chunk { stage = Queued }))) ⊎ ((other ≢ serial) × ((enqueued before).chunks other ≡ before.chunks other))
  now_at other = put_at net labelled ranks clock w is place buffer serial chunk at (λ c. Some (record c { stage = Queued })) other

  -- it is staged, so that it wasn't queued before
  rank_is : KeepsAt net place buffer → ranks place buffer serial ≡ clock
  rank_is keeps = elim (cases_lt (ranks place buffer serial) clock) [
    | inl less ↦ absurd (((is.queued place buffer serial keeps less).id.same chunk at).0 staged)
    | inr le ↦ (let by_now = due.by_now keeps in omega (arith, le, by_now))
  ]

  pub queue_held : (rank : ℕ) (event : Event) → KeepsAt net place buffer → rank ≤ clock → IsHeldFrom (ranks place buffer) rank before event → IsHeldFrom (ranks place buffer) rank (enqueued before) event
  queue_held rank event keeps le held = elim (now_at held.serial) [
    | inl here ↦ (let same : held.chunk ≡ chunk = same_Some held.chunk chunk (sym held.there ∙ ap before.chunks here.0 ∙ at) in record {
      serial = held.serial;
      chunk = record chunk { stage = Queued };
      there = here.1;
      inside = (let inside = rw same at held.inside in record { tag = inside.tag; entry = inside.entry });
      ranked = inr (let e = rank_is keeps in rw (here.0, e) le);
    })
    | inr there ↦ record { serial = held.serial; chunk = held.chunk; there = there.1 ∙ held.there; inside = held.inside; ranked = held.ranked }
  ]

  -- no message was sent from a staged chunk of a buffer that keeps
  queue_ids : (other : ℕ) (tag : List ℕ) (entries : List (List ℕ)) → IsIdOf (ranks place buffer) clock before other tag entries → IsIdOf (ranks place buffer) (clock + 1) (enqueued before) other tag entries
  queue_ids other tag entries id = elim (now_at other) [
    | inl here ↦ absurd ((id.same chunk (ap before.chunks here.0 ∙ at)).0 staged)
    | inr there ↦ record {
      ranked = (let less = id.ranked in omega (arith, less));
      given = id.given;
      same = λ now e. id.same now (sym there.1 ∙ e);
    }
  ]

  queued_id : KeepsAt net place buffer → WasQueued (ranks place buffer) (clock + 1) (enqueued before) serial
  queued_id keeps = record {
    tag = chunk.tag;
    entries = chunk.entries;
    id = record {
      ranked = (let e = rank_is keeps in omega (arith, e));
      given = given net labelled ranks clock w is place buffer serial chunk at;
      same = λ now there. elim (now_at serial) [
        | inl here ↦ (let is_now : record chunk { stage = Queued } ≡ now = same_Some (record chunk { stage = Queued }) now (sym here.1 ∙ there) in rw (← is_now) (λ e. cc, refl, refl))
        | inr apart ↦ absurd (apart.0 refl)
      ];
    };
  }

  queue_changes : Changes net labelled ranks clock w ranks (clock + 1) place buffer enqueued
  queue_changes = record {
    time = omega arith;
    elsewhere = λ p b other s. refl;
    sink = λ event inside. inside;
    held = λ rank origin tag le borne keeps held. safe_here net ranks w.buffers place buffer enqueued rank origin tag borne keeps (queue_held rank (event_of tag origin.entry) keeps le held);
    ids = λ keeps other tag entries id. (queue_ids other tag entries id, refl);
    back = λ p b keeps s less. elim (cases_lt (ranks p b s) clock) [
      | inl old ↦ inl old
      | inr le ↦ (let one = due.alone p b s keeps (omega (arith, le, less)) in elim (at_buffer w.buffers place buffer enqueued p b) [
        | inl here ↦ inr (rw here.2 (rw (here.0, here.1, one.2) (queued_id (rw (here.0, here.1) at keeps))))
        | inr there ↦ absurd (there.0 one.0 one.1)
      ])
    ];
  }

  queued_known : IsKnownChunk net ranks (clock + 1) (changed w.buffers place buffer enqueued) labelled place buffer serial (record chunk { stage = Queued })
  queued_known =
      let known = is.chunks place buffer serial chunk at in
      record {
        sent_on = known.sent_on;
        ranked = λ keeps moved. (let e = rank_is keeps in omega (arith, e));
        evident = λ keeps yes. absurd ((known.evident keeps yes).0 staged);
      }

  pub queue_ranked : IsRanked net labelled ranks (clock + 1) (with_buffer w place buffer enqueued)
  queue_ranked = buffer_goes net labelled ranks clock w ranks (clock + 1) place buffer enqueued queue_changes
      (put_below net labelled ranks clock w is place buffer serial chunk at (λ c. Some (record c { stage = Queued })))
      (λ other now there. elim (now_at other) [
        | inl here ↦ (let is_now : record chunk { stage = Queued } ≡ now = same_Some (record chunk { stage = Queued }) now (sym here.1 ∙ there) in rw (← is_now, here.0) queued_known)
        | inr apart ↦ chunk_goes net labelled ranks clock w.buffers ranks (clock + 1) (changed w.buffers place buffer enqueued) (change_goes net labelled ranks clock w ranks (clock + 1) place buffer enqueued queue_changes)
            place buffer other now now refl (like_itself now) (λ e. e) (is.chunks place buffer other now (sym apart.1 ∙ there))
      ])
      is
