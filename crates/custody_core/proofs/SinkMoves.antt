-- What a sink takes, what a relay that starts again loses, and what a buffer that doesn't keep lets
-- go, keep what is known of a network.
use Rattle.std.proofs.Common.{◌≡◌, ℕ, ◌≤◌, ◌&&◌, Bool, true, false, cond, List, ◌++◌, Option, Some, None, option_map, refl, sym, ap, subst, ◌∙◌, inl, inr, arith, IsSomeAnd}
use Rattle.std.proofs.lemmas.Option.{same_Some}
use Rattle.std.proofs.lemmas.List.Elements.{Contains-append_left}
use Rattle.std.specs.Prelude.{not, is_none}
use Rattle.std.specs.Option.{option_and_then, option_map_or}
use Rattle.custody_store.specs.declared.chunk.Stage.{Stage}
use Rattle.custody_store.specs.declared.chunk.Stage.TheVariants.{Staged, Queued, Claimed}
use Rattle.custody_store.specs.Buffers.{Event, Chunk, BufferState, is_queued, none_queued_below, without_oldest, restarted, unclaimed, started_again}
use Rattle.relay_conf.specs.BufferSection.{kind_view}
use Rattle.relay_conf.specs.declared.output.Output.{Output}
use Rattle.relay_conf.specs.declared.output.Output.TheVariants as output
use Rattle.relay_net.specs.Network.{Network, output_at, is_in_memory}
use Rattle.relay_net.specs.Outputs.{Keeps, settings_of}
use Rattle.custody_steps.specs.World.{World, with_buffer}
use Rattle.custody_core.proofs.Borne.{Origin}
use Rattle.custody_core.proofs.Safe.{Buffers, Ranking, KeepsAt, IsSafe, changed, safe_here}
use Rattle.custody_core.proofs.Ranked.{Labelling, IsRanked}
use Rattle.custody_core.proofs.Going.{GoesOn, IsLike, like_itself, Changes, change_goes, chunk_goes, world_goes, buffer_goes}

module _ {A : Type 0} (net : Network A) (labelled : Labelling) (ranks : Ranking) (clock : ℕ) (w : World) (is : IsRanked net labelled ranks clock w) (place buffer : ℕ) where
  -- More is stored in the sink of the buffer's output.
  module _ (more : BufferState → List Event) where
    abbrev pub fuller : BufferState → BufferState
    fuller state = record state { sink = state.sink ++ more state }

    fuller_changes : Changes net labelled ranks clock w ranks clock place buffer fuller
    fuller_changes = record {
      time = omega arith;
      elsewhere = λ p b other s. refl;
      sink = λ event inside. Contains-append_left (w.buffers place buffer).sink (more (w.buffers place buffer)) event inside;
      held = λ rank origin tag le borne keeps held. safe_here net ranks w.buffers place buffer fuller rank origin tag borne keeps (record { serial = held.serial; chunk = held.chunk; there = held.there; inside = held.inside; ranked = held.ranked });
      ids = λ keeps serial tag entries id. (record { ranked = id.ranked; given = id.given; same = id.same }, refl);
      back = λ p b keeps serial less. inl less;
    }

    pub fuller_ranked : IsRanked net labelled ranks clock (with_buffer w place buffer fuller)
    fuller_ranked = buffer_goes net labelled ranks clock w ranks clock place buffer fuller fuller_changes (λ serial le. is.below place buffer serial le)
        (λ serial chunk at. chunk_goes net labelled ranks clock w.buffers ranks clock (changed w.buffers place buffer fuller) (change_goes net labelled ranks clock w ranks clock place buffer fuller fuller_changes) place buffer serial chunk chunk refl (like_itself chunk) (λ e. e) (is.chunks place buffer serial chunk at))
        is

  -- A buffer that doesn't keep loses chunks.
  module _ (change : BufferState → BufferState) (lets_go : KeepsAt net place buffer → ⊥) (sink : (change (w.buffers place buffer)).sink ≡ (w.buffers place buffer).sink)
      (below : (serial : ℕ) → (change (w.buffers place buffer)).next ≤ serial → (change (w.buffers place buffer)).chunks serial ≡ None)
      (chunks : (serial : ℕ) (chunk : Chunk) → (change (w.buffers place buffer)).chunks serial ≡ Some chunk → (w.buffers place buffer).chunks serial ≡ Some chunk) where
    loose_changes : Changes net labelled ranks clock w ranks clock place buffer change
    loose_changes = record {
      time = omega arith;
      elsewhere = λ p b other s. refl;
      sink = λ event inside. rw sink inside;
      held = λ rank origin tag le borne keeps held. absurd (lets_go keeps);
      ids = λ keeps serial tag entries id. absurd (lets_go keeps);
      back = λ p b keeps serial less. inl less;
    }

    pub loose_ranked : IsRanked net labelled ranks clock (with_buffer w place buffer change)
    loose_ranked = buffer_goes net labelled ranks clock w ranks clock place buffer change loose_changes below
        (λ serial chunk at. chunk_goes net labelled ranks clock w.buffers ranks clock (changed w.buffers place buffer change) (change_goes net labelled ranks clock w ranks clock place buffer change loose_changes) place buffer serial chunk chunk refl (like_itself chunk) (λ e. e) (is.chunks place buffer serial chunk (chunks serial chunk at)))
        is

-- what is left at a serial after the oldest queued chunk went
pub left_by : (b : Bool) (o : Option Chunk) (chunk : Chunk) → cond b None o ≡ Some chunk → o ≡ Some chunk
left_by true o chunk e = absurd (cc)
left_by false o chunk e = e

none_by : (b : Bool) (o : Option Chunk) → o ≡ None → cond b None o ≡ None
none_by true o e = refl
none_by false o e = e

-- The oldest queued chunk goes from a buffer that doesn't keep.
pub oldest_ranked : {A : Type 0} (net : Network A) (labelled : Labelling) (ranks : Ranking) (clock : ℕ) (w : World) → IsRanked net labelled ranks clock w → (place buffer : ℕ) → (KeepsAt net place buffer → ⊥)
    → IsRanked net labelled ranks clock (with_buffer w place buffer without_oldest)
oldest_ranked net labelled ranks clock w is place buffer lets_go =
    let state = w.buffers place buffer in
    loose_ranked net labelled ranks clock w is place buffer without_oldest lets_go refl
    (λ serial le. none_by (is_queued (state.chunks serial) && none_queued_below serial state.chunks) (state.chunks serial) (is.below place buffer serial le))
    (λ serial chunk at. left_by (is_queued (state.chunks serial) && none_queued_below serial state.chunks) (state.chunks serial) chunk at)

-- Restarts.

-- a buffer that keeps is in no memory
keeps_in_file : {A : Type 0} (o : Option (Output A)) → IsSomeAnd o Keeps → option_map_or (λ settings. is_none (kind_view settings.kind)) (option_and_then settings_of o) false ≡ false
keeps_in_file None h = absurd h
keeps_in_file (Some (output.Null line)) h = absurd h
keeps_in_file (Some (output.Relabel target line)) h = absurd h
keeps_in_file (Some (output.Forward settings line)) h = ap not h.0.in_file
keeps_in_file (Some (output.File settings line)) h = ap not h.in_file

pub in_file : {A : Type 0} (net : Network A) (place buffer : ℕ) → KeepsAt net place buffer → is_in_memory net place buffer ≡ false
in_file net place buffer keeps = keeps_in_file (output_at net place buffer) keeps

staged_before : (stage : Stage) → unclaimed stage ≡ Staged → stage ≡ Staged
staged_before Staged e = refl
staged_before Queued e = absurd (cc)
staged_before Claimed e = absurd (cc)

staged_after : (level : Stage) → level ≡ Staged → unclaimed level ≡ Staged
staged_after level e = rw e refl

like_restarted : (chunk : Chunk) → IsLike chunk (restarted chunk)
like_restarted chunk = record { tag = refl; entries = refl; staged = λ e. staged_before chunk.stage e; still = λ e. staged_after chunk.stage e }

restarted_from : (o : Option Chunk) (found : Chunk) → option_map restarted o ≡ Some found → (c : Chunk) × (o ≡ Some c) × (found ≡ restarted c)
restarted_from None found e = absurd (cc)
restarted_from (Some c) found e = (c, refl, sym (same_Some (restarted c) found e))

none_restarted : (o : Option Chunk) → o ≡ None → option_map restarted o ≡ None
none_restarted None e = refl
none_restarted (Some c) e = absurd (cc)

-- A buffer started again, in memory or not, or didn't.
pub data IsAgain (old : BufferState) (memory : Bool) : BufferState → Type 0 where
  as_before : IsAgain old memory old
  again : IsAgain old memory (started_again memory old)

module _ (old : BufferState) where
  again_below : (memory : Bool) (new : BufferState) → IsAgain old memory new → ((serial : ℕ) → old.next ≤ serial → old.chunks serial ≡ None) → (serial : ℕ) → new.next ≤ serial → new.chunks serial ≡ None
  again_below memory new as_before below serial le = below serial le
  again_below true new again below serial le = refl
  again_below false new again below serial le = none_restarted (old.chunks serial) (below serial le)

  pub again_sink : (memory : Bool) (new : BufferState) → IsAgain old memory new → new.sink ≡ old.sink
  again_sink memory new as_before = refl
  again_sink true new again = refl
  again_sink false new again = refl

  -- each chunk that is there was there, and has what it had
  pub again_from : (memory : Bool) (new : BufferState) → IsAgain old memory new → (serial : ℕ) (now : Chunk) → new.chunks serial ≡ Some now → (chunk : Chunk) × (old.chunks serial ≡ Some chunk) × IsLike chunk now × (now.evidence ≡ true → chunk.evidence ≡ true)
  again_from memory new as_before serial now at = (now, at, like_itself now, λ e. e)
  again_from true new again serial now at = absurd (cc)
  again_from false new again serial now at =
      let r = restarted_from (old.chunks serial) now at in
      (r.0, r.1, subst (λ (x : Chunk). IsLike r.0 x) (sym r.2) (like_restarted r.0), λ e. absurd (let f : now.evidence ≡ false = ap (λ (c : Chunk). c.evidence) r.2 in let g = sym e ∙ f in cc))

  -- in a file each chunk stays
  pub again_to : (new : BufferState) → IsAgain old false new → (serial : ℕ) (chunk : Chunk) → old.chunks serial ≡ Some chunk → (now : Chunk) × (new.chunks serial ≡ Some now) × IsLike chunk now
  again_to new as_before serial chunk at = (chunk, at, like_itself chunk)
  again_to new again serial chunk at = (restarted chunk, ap (option_map restarted) at, like_restarted chunk)

  again_next : (new : BufferState) → IsAgain old false new → new.next ≡ old.next
  again_next new as_before = refl
  again_next new again = refl

module _ {A : Type 0} (net : Network A) (labelled : Labelling) (ranks : Ranking) (clock : ℕ) (w : World) (is : IsRanked net labelled ranks clock w) (new : Buffers)
    (are : (place buffer : ℕ) → IsAgain (w.buffers place buffer) (is_in_memory net place buffer) (new place buffer)) where
  kept_again : (place buffer : ℕ) → KeepsAt net place buffer → IsAgain (w.buffers place buffer) false (new place buffer)
  kept_again place buffer keeps = rw (in_file net place buffer keeps) at (are place buffer)

  again_safe : (rank : ℕ) (origin : Origin) → IsSafe net ranks w.buffers rank origin → IsSafe net ranks new rank origin
  again_safe rank origin safe = record {
    place = safe.place;
    buffer = safe.buffer;
    tag = safe.tag;
    borne = safe.borne;
    held = elim safe.held [
      | inl stored ↦ inl (rw (again_sink (w.buffers safe.place safe.buffer) (is_in_memory net safe.place safe.buffer) (new safe.place safe.buffer) (are safe.place safe.buffer)) stored)
      | inr in_chunk ↦ (let h = in_chunk.1 in
          let n = again_to (w.buffers safe.place safe.buffer) (new safe.place safe.buffer) (kept_again safe.place safe.buffer in_chunk.0) h.serial h.chunk h.there in
          inr (
            in_chunk.0,
            record {
              serial = h.serial;
              chunk = n.0;
              there = n.1;
              inside = record { tag = n.2.tag ∙ h.inside.tag; entry = rw n.2.entries h.inside.entry };
              ranked = elim h.ranked [ inl staged ↦ inl (n.2.still staged) | inr high ↦ inr high ];
            },
          ))
    ];
  }

  again_goes : GoesOn net ranks clock w.buffers ranks clock new
  again_goes = record {
    time = omega arith;
    safe = λ rank origin le safe. again_safe rank origin safe;
    ids = λ place buffer keeps serial tag entries id. (
      record {
        ranked = id.ranked;
        given = rw (again_next (w.buffers place buffer) (new place buffer) (kept_again place buffer keeps)) id.given;
        same = λ now at. (let c = again_from (w.buffers place buffer) false (new place buffer) (kept_again place buffer keeps) serial now at in
            let old = id.same c.0 c.1 in
            (λ e. old.0 (c.2.staged e), c.2.tag ∙ old.1, c.2.entries ∙ old.2));
      },
      refl,
    );
    back = λ place buffer keeps serial less. inl less;
  }

  pub again_ranked : IsRanked net labelled ranks clock (record w { buffers = new })
  again_ranked = world_goes net labelled ranks clock w ranks clock new again_goes
      (λ place buffer serial le. again_below (w.buffers place buffer) (is_in_memory net place buffer) (new place buffer) (are place buffer) (is.below place buffer) serial le)
      (λ place buffer serial now at. (let c = again_from (w.buffers place buffer) (is_in_memory net place buffer) (new place buffer) (are place buffer) serial now at in
      chunk_goes net labelled ranks clock w.buffers ranks clock new again_goes place buffer serial c.0 now refl c.2 c.3 (is.chunks place buffer serial c.0 c.1)))
      is
