-- An append keeps what is known of a network, and its events are safe above every rank then.
use Rattle.std.proofs.Common.{◌≡◌, ◌≢◌, ℕ, ◌≤◌, true, List, Option, Some, None, refl, sym, ap, ◌∙◌, ◌⊎◌, inl, inr, arith, Contains}
use Rattle.std.proofs.lemmas.Option.{same_Some}
use Rattle.std.proofs.lemmas.List.Elements.{Contains-append_left, Contains-append_right}
use Rattle.custody_store.specs.declared.chunk.Stage.TheVariants.{Staged}
use Rattle.custody_store.specs.Buffers.{Event, Chunk, BufferState, with_chunk, CanTake, chunk_with, next_after, appended_to}
use Rattle.relay_net.specs.Network.{Network}
use Rattle.custody_steps.specs.World.{World, with_buffer}
use Rattle.custody_core.proofs.Borne.{Origin, Bears}
use Rattle.custody_core.proofs.Serials.{event_of, at_serial}
use Rattle.custody_core.proofs.Safe.{Ranking, KeepsAt, IsHeldFrom, IsSafe, changed, safe_here}
use Rattle.custody_core.proofs.Ranked.{Labelling, IsSentOn, IsIdOf, IsRanked}
use Rattle.custody_core.proofs.Going.{like_itself, Changes, change_goes, chunk_goes, buffer_goes}

-- the buffer with this chunk, and with this serial next
abbrev put : BufferState → ℕ → Chunk → ℕ → BufferState
put state serial new next = record (with_chunk serial (Some new) state) { next = next }

-- A staged chunk with these entries and those that were there stands at the serial, and no id was
-- of it.
record Takes {A : Type 0} (net : Network A) (labelled : Labelling) (ranks : Ranking) (clock place buffer : ℕ) (state : BufferState) (tag : List ℕ) (entries : List (List ℕ)) (serial : ℕ) (new : Chunk) (next : ℕ) : Type 0 where
  staged : new.stage ≡ Staged
  young : KeepsAt net place buffer → new.evidence ≡ true → ⊥
  tagged : new.tag ≡ tag
  has : (entry : List ℕ) → Contains entries entry → Contains new.entries entry
  sent_on : IsSentOn net labelled place buffer new.tag
  more : state.next ≤ next
  free : (other : ℕ) → next ≤ other → (state.next ≤ other) × (other ≢ serial)
  unused : (other : ℕ) (t : List ℕ) (e : List (List ℕ)) → IsIdOf (ranks place buffer) clock state other t e → other ≢ serial
  was : (chunk : Chunk) → state.chunks serial ≡ Some chunk → (chunk.tag ≡ new.tag) × ((entry : List ℕ) → Contains chunk.entries entry → Contains new.entries entry)

-- What an append leaves.
pub record Appended {A : Type 0} (net : Network A) (labelled : Labelling) (ranks : Ranking) (clock : ℕ) (w : World) (place buffer : ℕ) (tag : List ℕ) (entries : List (List ℕ)) (change : BufferState → BufferState) : Type 0 where
  pub ranked : IsRanked net labelled ranks clock (with_buffer w place buffer change)
  pub safe : KeepsAt net place buffer → (rank : ℕ) (origin : Origin) → Bears net origin place buffer tag → Contains entries origin.entry → IsSafe net ranks (changed w.buffers place buffer change) rank origin

module _ {A : Type 0} (net : Network A) (labelled : Labelling) (ranks : Ranking) (clock : ℕ) (w : World) (is : IsRanked net labelled ranks clock w) (place buffer : ℕ) (tag : List ℕ) (entries : List (List ℕ)) (serial : ℕ) (new : Chunk) (next : ℕ)
    (takes : Takes net labelled ranks clock place buffer (w.buffers place buffer) tag entries serial new next) (change : BufferState → BufferState) (is_put : change (w.buffers place buffer) ≡ put (w.buffers place buffer) serial new next) where
  abbrev before : BufferState
  before = w.buffers place buffer

  now_at : (other : ℕ) → ((other ≡ serial) × ((change before).chunks other ≡ Some new)) ⊎ ((other ≢ serial) × ((change before).chunks other ≡ before.chunks other))
  now_at other = rw is_put (at_serial before serial other (Some new))

  take_held : (rank : ℕ) (event : Event) → IsHeldFrom (ranks place buffer) rank before event → IsHeldFrom (ranks place buffer) rank (change before) event
  take_held rank event held = elim (now_at held.serial) [
    | inl here ↦ (let was = takes.was held.chunk (ap before.chunks (sym here.0) ∙ held.there) in record {
      serial = held.serial;
      chunk = new;
      there = here.1;
      inside = record { tag = sym was.0 ∙ held.inside.tag; entry = was.1 event.entry held.inside.entry };
      ranked = inl takes.staged;
    })
    | inr there ↦ record { serial = held.serial; chunk = held.chunk; there = there.1 ∙ held.there; inside = held.inside; ranked = held.ranked }
  ]

  take_ids : (other : ℕ) (t : List ℕ) (e : List (List ℕ)) → IsIdOf (ranks place buffer) clock before other t e → IsIdOf (ranks place buffer) clock (change before) other t e
  take_ids other t e id = record {
    ranked = id.ranked;
    given = rw is_put (let less = id.given in let more = takes.more in omega arith);
    same = λ now there. elim (now_at other) [
      | inl here ↦ absurd (takes.unused other t e id here.0)
      | inr apart ↦ id.same now (sym apart.1 ∙ there)
    ];
  }

  take_changes : Changes net labelled ranks clock w ranks clock place buffer change
  take_changes = record {
    time = omega arith;
    elsewhere = λ p b other s. refl;
    sink = λ event inside. rw is_put inside;
    held = λ rank origin tag le borne keeps held. safe_here net ranks w.buffers place buffer change rank origin tag borne keeps (take_held rank (event_of tag origin.entry) held);
    ids = λ keeps other t e id. (take_ids other t e id, refl);
    back = λ p b keeps serial less. inl less;
  }

  taken : Appended net labelled ranks clock w place buffer tag entries change
  taken = record {
    ranked = buffer_goes net labelled ranks clock w ranks clock place buffer change take_changes
        (λ other le. (let free = takes.free other (rw is_put at le) in elim (now_at other) [
          | inl here ↦ absurd (free.1 here.0)
          | inr apart ↦ apart.1 ∙ is.below place buffer other free.0
        ]))
        (λ other now there. elim (now_at other) [
          | inl here ↦ (let is_now : new ≡ now = same_Some new now (sym here.1 ∙ there) in rw (← is_now, here.0) (record {
            sent_on = takes.sent_on;
            ranked = λ keeps moved. absurd (moved takes.staged);
            evident = λ keeps yes. absurd (takes.young keeps yes);
          }))
          | inr apart ↦ chunk_goes net labelled ranks clock w.buffers ranks clock (changed w.buffers place buffer change) (change_goes net labelled ranks clock w ranks clock place buffer change take_changes)
              place buffer other now now refl (like_itself now) (λ e. e) (is.chunks place buffer other now (sym apart.1 ∙ there))
        ])
        is;
    safe = λ keeps rank origin borne inside. safe_here net ranks w.buffers place buffer change rank origin tag borne keeps (elim (now_at serial) [
      | inl here ↦ record { serial = serial; chunk = new; there = here.1; inside = record { tag = takes.tagged; entry = takes.has origin.entry inside }; ranked = inl takes.staged }
      | inr apart ↦ absurd (apart.0 refl)
    ]);
  }

module _ {A : Type 0} (net : Network A) (labelled : Labelling) (ranks : Ranking) (clock : ℕ) (w : World) (is : IsRanked net labelled ranks clock w) (place buffer : ℕ) (tag : List ℕ) (entries : List (List ℕ)) (serial : ℕ) (sent_on : IsSentOn net labelled place buffer tag) where
  takes_at : (o : Option Chunk) → (w.buffers place buffer).chunks serial ≡ o → CanTake (w.buffers place buffer) tag serial
      → Takes net labelled ranks clock place buffer (w.buffers place buffer) tag entries serial (chunk_with o tag entries) (next_after o serial (w.buffers place buffer).next)
  takes_at None at can =
      let is_next : serial ≡ (w.buffers place buffer).next = elim can [ inl h ↦ absurd (rw at at h) | inr h ↦ h ] in
      record {
        staged = refl;
        young = λ keeps e. cc;
        tagged = refl;
        has = λ entry inside. inside;
        sent_on = sent_on;
        more = omega (arith, is_next);
        free = λ other le. (omega (arith, is_next), λ e. omega arith);
        unused = λ other t e id same. (let less = id.given in omega (arith, is_next));
        was = λ chunk e. absurd (let g = sym at ∙ e in cc);
      }
  takes_at (Some c) at can =
      let known = is.chunks place buffer serial c at in
      let staged : (c.stage ≡ Staged) × (c.tag ≡ tag) = elim can [ inl h ↦ rw at at h | inr h ↦ absurd (let g = is.below place buffer serial (omega (arith, h)) in let f = sym at ∙ g in cc) ] in
      record {
        staged = staged.0;
        young = λ keeps yes. (known.evident keeps yes).0 staged.0;
        tagged = staged.1;
        has = λ entry inside. Contains-append_right c.entries entries entry inside;
        sent_on = known.sent_on;
        more = omega arith;
        free = λ other le. (le, λ e. (let g = is.below place buffer serial (rw e at le) in let f = sym at ∙ g in cc));
        unused = λ other t e id same. (id.same c (ap (w.buffers place buffer).chunks same ∙ at)).0 staged.0;
        was = λ chunk e. (let same : c ≡ chunk = same_Some c chunk (sym at ∙ e) in (sym (ap (λ (x : Chunk). x.tag) same), λ entry inside. Contains-append_left c.entries entries entry (rw same inside)));
      }

  -- entries are appended where the buffer takes them
  pub append_ranked : CanTake (w.buffers place buffer) tag serial → Appended net labelled ranks clock w place buffer tag entries (appended_to tag entries serial)
  append_ranked can =
      let o = (w.buffers place buffer).chunks serial in
      taken net labelled ranks clock w is place buffer tag entries serial (chunk_with o tag entries) (next_after o serial (w.buffers place buffer).next) (takes_at o refl can) (appended_to tag entries serial) refl

  -- what was held in the buffer is
  pub append_held : CanTake (w.buffers place buffer) tag serial → (rank : ℕ) (event : Event) → IsHeldFrom (ranks place buffer) rank (w.buffers place buffer) event → IsHeldFrom (ranks place buffer) rank (appended_to tag entries serial (w.buffers place buffer)) event
  append_held can rank event held =
      let o = (w.buffers place buffer).chunks serial in
      take_held net labelled ranks clock w is place buffer tag entries serial (chunk_with o tag entries) (next_after o serial (w.buffers place buffer).next) (takes_at o refl can) (appended_to tag entries serial) refl rank event held

  -- the entries are, above every rank
  pub append_here : CanTake (w.buffers place buffer) tag serial → (rank : ℕ) (entry : List ℕ) → Contains entries entry → IsHeldFrom (ranks place buffer) rank (appended_to tag entries serial (w.buffers place buffer)) (event_of tag entry)
  append_here can rank entry inside =
      let o = (w.buffers place buffer).chunks serial in
      let takes = takes_at o refl can in
      elim (now_at net labelled ranks clock w is place buffer tag entries serial (chunk_with o tag entries) (next_after o serial (w.buffers place buffer).next) takes (appended_to tag entries serial) refl serial) [
        | inl here ↦ record { serial = serial; chunk = chunk_with o tag entries; there = here.1; inside = record { tag = takes.tagged; entry = takes.has entry inside }; ranked = inl takes.staged }
        | inr apart ↦ absurd (apart.0 refl)
      ]

  -- a chunk with evidence is one that was there
  pub append_evident : CanTake (w.buffers place buffer) tag serial → KeepsAt net place buffer → (other : ℕ) (now : Chunk) → (appended_to tag entries serial (w.buffers place buffer)).chunks other ≡ Some now → now.evidence ≡ true → (w.buffers place buffer).chunks other ≡ Some now
  append_evident can keeps other now at sure =
      let o = (w.buffers place buffer).chunks serial in
      let takes = takes_at o refl can in
      elim (now_at net labelled ranks clock w is place buffer tag entries serial (chunk_with o tag entries) (next_after o serial (w.buffers place buffer).next) takes (appended_to tag entries serial) refl other) [
        | inl here ↦ absurd (let is_now : chunk_with o tag entries ≡ now = same_Some (chunk_with o tag entries) now (sym here.1 ∙ at) in takes.young keeps (rw (← is_now) at sure))
        | inr apart ↦ sym apart.1 ∙ at
      ]
