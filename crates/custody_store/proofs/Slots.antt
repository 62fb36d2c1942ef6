-- What a change of one chunk is to a buffer, and what a restart is.
use Rattle.std.proofs.Common.{◌≡◌, ℕ, zero, suc, ◌+◌, ◌<◌, ◌≤◌, ◌==◌, Bool, true, false, cond, List, [], ◌∷◌, ◌++◌, map, set, take, get_or, length, Option, Some, None, option_map, refl, sym, ap, subst, ◌∙◌, inl, inr, arith, All, IsSomeAnd, ◌⊎◌, ◌↔◌, not}
use Rattle.std.specs.Option.{ForSome, option_and_then, option_map_or}
use Rattle.std.proofs.lemmas.List.{map-set, map-append, length-map, set-get_or}
use Rattle.std.proofs.lemmas.Bool.{eq-eqb, ne_eqb, cases_eq, cases_lt, and_from}
use Rattle.std.proofs.lemmas.Option.{slice_get-map, slice_get_read}
use Rattle.std.proofs.lemmas.List.Elements.{All-set, All-append, All-cons, All-nil, recursion_from_All}
use Rattle.std.specs.List.{AllByRecursion}
use Rattle.custody_store.specs.Buffers.{Event, Chunk, events_of, is_queued, none_queued_below, unclaimed, restarted}
use Rattle.custody_store.specs.Contents.{event_of, stored_events, chunk_at, flag_at, changed, restarted_chunks}
use Rattle.custody_store.specs.Marks.{stage_at, kept_at, is_since, slot_from, chunk_from, contents_from, restaged, evident, sent_on, first_of, IsStageBelow, IsMarkBelow, IsChunkBelow, IsSlotBelow, IsSound}
use Rattle.custody_store.specs.declared.chunk.Stage.{Stage}
use Rattle.custody_store.specs.declared.chunk.Stage.TheVariants.{Staged, Queued, Claimed}
use Rattle.custody_store.specs.declared.chunk.Kept.{Kept}
use Rattle.custody_store.specs.declared.chunk.Kept.TheVariants as kept
use Rattle.custody_store.specs.declared.chunk.Chunk.{Chunk as KeptChunk}
use Rattle.custody_store.specs.declared.event.Event.{Event as Stored}
use Rattle.custody_store.proofs.ChunksAt.{chunk_at-set, chunk_at-push, chunk_at_past}

-- the chunk at a serial, as the buffer shows it
pub chunk_at-view : {A : Type 0} (now : ℕ) (chunks : List (Option (KeptChunk A))) (serial : ℕ) (slot : Option (KeptChunk A)) → serial < length chunks → slot ≡ get_or chunks serial slot → chunk_at (map (slot_from now) chunks) serial ≡ slot_from now slot
chunk_at-view now chunks serial slot within is =
    ap (option_and_then (λ s. s)) (slice_get-map (slot_from now) chunks serial ∙ ap (option_map (slot_from now)) (slice_get_read chunks (length chunks) serial slot refl within is))

-- a slot written is the chunk changed
pub map-changed : {A : Type 0} (now : ℕ) (chunks : List (Option (KeptChunk A))) (serial : ℕ) (old new : Option (KeptChunk A)) (change : Chunk → Option Chunk) → serial < length chunks → old ≡ get_or chunks serial old → slot_from now new ≡ option_and_then change (slot_from now old) → map (slot_from now) (set chunks serial new) ≡ changed (map (slot_from now) chunks) serial change
map-changed now chunks serial old new change within is same =
    map-set (slot_from now) chunks serial new ∙ ap (set (map (slot_from now) chunks) serial) (same ∙ ap (option_and_then change) (sym (chunk_at-view now chunks serial old within is)))

-- A new stage.

stage_at-kept_at : (now : ℕ) (stage : Stage) → stage_at now (kept_at now stage) ≡ stage
stage_at-kept_at now Staged = refl
stage_at-kept_at now Queued = refl
stage_at-kept_at now Claimed = ap (λ b. cond b Claimed Queued) (eq-eqb now now refl)

kept_below : (count now : ℕ) (stage : Stage) → now < count → IsStageBelow count (kept_at now stage)
kept_below count now Staged h = tt
kept_below count now Queued h = tt
kept_below count now Claimed h = h

abbrev pub in_stage : Stage → Chunk → Option Chunk
in_stage stage chunk = Some (record chunk { stage = stage })

pub slot_from-restaged : {A : Type 0} (now : ℕ) (to : Stage) (slot : Option (KeptChunk A)) → slot_from now (option_map (restaged (kept_at now to)) slot) ≡ option_and_then (in_stage to) (slot_from now slot)
slot_from-restaged now to None = refl
slot_from-restaged now to (Some chunk) = ap (λ s. Some (record (chunk_from now chunk) { stage = s })) (stage_at-kept_at now to)

pub restaged_below : {A : Type 0} (count now : ℕ) (to : Stage) (slot : Option (KeptChunk A)) → now < count → IsSlotBelow count slot → IsSlotBelow count (option_map (restaged (kept_at now to)) slot)
restaged_below count now _ None h below = below
restaged_below count now to (Some chunk) h below = record { stage = kept_below count now to h; evidence = below.evidence; forwarded = below.forwarded }

-- Evidence, and that a chunk was forwarded.

abbrev pub with_evidence : Chunk → Option Chunk
with_evidence chunk = Some (record chunk { evidence = true })

abbrev pub as_forwarded : Chunk → Option Chunk
as_forwarded chunk = Some (record chunk { forwarded = true })

pub slot_from-evident : {A : Type 0} (now : ℕ) (slot : Option (KeptChunk A)) → slot_from now (option_map (evident now) slot) ≡ option_and_then with_evidence (slot_from now slot)
slot_from-evident now None = refl
slot_from-evident now (Some chunk) = ap (λ b. Some (record (chunk_from now chunk) { evidence = b })) (eq-eqb now now refl)

pub slot_from-sent_on : {A : Type 0} (now : ℕ) (slot : Option (KeptChunk A)) → slot_from now (option_map (sent_on now) slot) ≡ option_and_then as_forwarded (slot_from now slot)
slot_from-sent_on now None = refl
slot_from-sent_on now (Some chunk) = ap (λ b. Some (record (chunk_from now chunk) { forwarded = b })) (eq-eqb now now refl)

-- a chunk that is claimed in a generation tells that the generation is below the count
claimed_below : (count now : ℕ) (stage : Kept) → IsStageBelow count stage → stage_at now stage ≡ Claimed → now < count
claimed_below count now kept.Staged below is = absurd (cc)
claimed_below count now kept.Queued below is = absurd (cc)
claimed_below count now (kept.Claimed since) below is = elim (cases_eq since now) as (λ _. now < count) [
  | inl e ↦ omega arith
  | inr apart ↦ (let c : cond (since == now) Claimed Queued ≡ Queued = ap (λ b. cond b Claimed Queued) (ne_eqb since now apart) in absurd (cc))
]

pub evident_below : {A : Type 0} (count now : ℕ) (slot : Option (KeptChunk A)) → IsSomeAnd (slot_from now slot) (λ chunk. chunk.stage ≡ Claimed) → IsSlotBelow count slot → IsSlotBelow count (option_map (evident now) slot)
evident_below count now None is below = below
evident_below count now (Some chunk) is below = record { stage = below.stage; evidence = claimed_below count now chunk.stage below.stage is; forwarded = below.forwarded }

pub sent_on_below : {A : Type 0} (count now : ℕ) (slot : Option (KeptChunk A)) → IsSomeAnd (slot_from now slot) (λ chunk. chunk.stage ≡ Claimed) → IsSlotBelow count slot → IsSlotBelow count (option_map (sent_on now) slot)
sent_on_below count now None is below = below
sent_on_below count now (Some chunk) is below = record { stage = below.stage; evidence = below.evidence; forwarded = claimed_below count now chunk.stage below.stage is }

-- where the chunk at a serial is claimed, as the buffer shows it, that of the slot that was read
-- there is
pub claimed_slot : {A : Type 0} (now : ℕ) (chunks : List (Option (KeptChunk A))) (serial : ℕ) (slot : Option (KeptChunk A)) → serial < length chunks → slot ≡ get_or chunks serial slot
    → IsSomeAnd (chunk_at (map (slot_from now) chunks) serial) (λ chunk. chunk.stage ≡ Claimed) → IsSomeAnd (slot_from now slot) (λ chunk. chunk.stage ≡ Claimed)
claimed_slot now chunks serial slot within is h = subst (λ (o : Option Chunk). IsSomeAnd o (λ chunk. chunk.stage ≡ Claimed)) (chunk_at-view now chunks serial slot within is) h

-- whether it is queued goes by its stage alone
pub queued_marked : (slot : Option Chunk) (change : Chunk → Option Chunk) → ((chunk : Chunk) → is_queued (change chunk) ≡ is_queued (Some chunk)) → is_queued (option_and_then change slot) ≡ is_queued slot
queued_marked None change same = refl
queued_marked (Some chunk) change same = same chunk

abbrev pub gone : Chunk → Option Chunk
gone chunk = None

pub slot_from-gone : {A : Type 0} (now : ℕ) (old : Option (KeptChunk A)) → None ≡ option_and_then gone (slot_from now old)
slot_from-gone now None = refl
slot_from-gone now (Some chunk) = refl

-- More claims.

stage_below_more : (count : ℕ) (stage : Kept) → IsStageBelow count stage → IsStageBelow (count + 1) stage
stage_below_more count kept.Staged h = h
stage_below_more count kept.Queued h = h
stage_below_more count (kept.Claimed since) h = omega arith

mark_below_more : (count : ℕ) (mark : Option ℕ) → IsMarkBelow count mark → IsMarkBelow (count + 1) mark
mark_below_more count None h = h
mark_below_more count (Some since) h = omega arith

slot_below_more : {A : Type 0} (count : ℕ) (slot : Option (KeptChunk A)) → IsSlotBelow count slot → IsSlotBelow (count + 1) slot
slot_below_more count None h = h
slot_below_more count (Some chunk) h = record {
  stage = stage_below_more count chunk.stage h.stage;
  evidence = mark_below_more count chunk.evidence h.evidence;
  forwarded = mark_below_more count chunk.forwarded h.forwarded;
}

pub sound_more : {A : Type 0} (count now least n : ℕ) (chunks : List (Option (KeptChunk A))) → n ≡ count + 1 → IsSound count now least chunks → IsSound n now least chunks
sound_more count now least n chunks next h = rw next (record {
  below = λ k d within. slot_below_more count _ (h.below k d within);
  now_is = let le = h.now_is in omega arith;
  not_queued = h.not_queued;
})

-- One slot was written.
module _ {A : Type 0} (now : ℕ) (chunks : List (Option (KeptChunk A))) (serial : ℕ) (old new : Option (KeptChunk A)) (is : old ≡ get_or chunks serial old) where
  pub contents_from-set : (change : Chunk → Option Chunk) (sink : List (Stored A)) (answered : List Bool)
      → serial < length (map (slot_from now) chunks) → slot_from now new ≡ option_and_then change (slot_from now old)
      → contents_from now (set chunks serial new) sink answered ≡ record (contents_from now chunks sink answered) { chunks = changed (map (slot_from now) chunks) serial change }
  contents_from-set change sink answered within same = ap
      (λ (slots : List (Option Chunk)). record (contents_from now chunks sink answered) { chunks = slots })
      (map-changed now chunks serial old new change (simp length-map at within) is same)

  -- A slot was written as it was.
  pub contents_from-same : (sink : List (Stored A)) (answered : List Bool) → slot_from now new ≡ slot_from now old
      → contents_from now (set chunks serial new) sink answered ≡ contents_from now chunks sink answered
  contents_from-same sink answered same = ap
      (λ (slots : List (Option Chunk)). record (contents_from now chunks sink answered) { chunks = slots })
      (map-set (slot_from now) chunks serial new ∙ ap (set (map (slot_from now) chunks) serial) same ∙ sym (map-set (slot_from now) chunks serial old)
      ∙ ap (λ (slot : Option (KeptChunk _)). map (slot_from now) (set chunks serial slot)) is ∙ ap (map (slot_from now)) (set-get_or chunks serial old))

  not_queued-set : (least : ℕ) → serial < length chunks → (serial < least → is_queued (slot_from now new) ≡ false) → ((s : ℕ) → s < least → is_queued (chunk_at (map (slot_from now) chunks) s) ≡ false)
      → (s : ℕ) → s < least → is_queued (chunk_at (map (slot_from now) (set chunks serial new)) s) ≡ false
  not_queued-set least within here others s less =
      rw (map-set (slot_from now) chunks serial new, chunk_at-set (map (slot_from now) chunks) serial (slot_from now new) s (simp length-map within))
      (elim (cases_eq s serial) as (λ _. is_queued (cond (s == serial) (slot_from now new) (chunk_at (map (slot_from now) chunks) s)) ≡ false) [
        | inl e ↦ rw (eq-eqb s serial e) (here (omega arith))
        | inr apart ↦ rw (ne_eqb s serial apart) (others s less)
      ])

  pub sound-set : (count least : ℕ) (lower : ℕ) → IsSound count now least chunks → lower ≤ least → serial < length (map (slot_from now) chunks) → (IsSlotBelow count old → IsSlotBelow count new)
      → (serial < lower → is_queued (slot_from now new) ≡ false) → IsSound count now lower (set chunks serial new)
  sound-set count least lower h le inside below here =
      let within : serial < length chunks = simp length-map at inside in
      record {
        below = All-set (IsSlotBelow count) chunks serial new (below (subst (IsSlotBelow count) (sym is) (h.below serial old within))) h.below;
        now_is = h.now_is;
        not_queued = not_queued-set lower within here (λ s less. h.not_queued s (omega arith));
      }

  -- below the least serial nothing was queued
  pub old_not_queued : (count least : ℕ) → IsSound count now least chunks → serial < length (map (slot_from now) chunks) → serial < least → is_queued (slot_from now old) ≡ false
  old_not_queued count least h inside less =
      let within : serial < length chunks = simp length-map at inside in
      rw (chunk_at-view now chunks serial old within is) at (h.not_queued serial less)

-- A new chunk.
module _ {A : Type 0} (now : ℕ) (chunks after : List (Option (KeptChunk A))) (added : KeptChunk A) (e : after ≡ chunks ++ Some added ∷ []) where
  pub contents_from-added : (sink : List (Stored A)) (answered : List Bool) (chunk : Chunk) → chunk_from now added ≡ chunk
      → contents_from now after sink answered ≡ record (contents_from now chunks sink answered) { chunks = map (slot_from now) chunks ++ Some chunk ∷ [] }
  contents_from-added sink answered chunk is = ap
      (λ (all : List (Option Chunk)). record (contents_from now chunks sink answered) { chunks = all })
      (ap (map (slot_from now)) e ∙ map-append (slot_from now) chunks (Some added ∷ []) ∙ ap (λ (c : Chunk). map (slot_from now) chunks ++ Some c ∷ []) is)

  either : (t : Bool) (x y : Option Chunk) → is_queued x ≡ false → is_queued y ≡ false → is_queued (cond t x y) ≡ false
  either true x y p q = p
  either false x y p q = q

  pub sound-added : (count least : ℕ) → IsSound count now least chunks → IsChunkBelow count added → is_queued (Some (chunk_from now added)) ≡ false → IsSound count now least after
  sound-added count least h fresh staged = rw e (record {
    below = All-append (IsSlotBelow count) chunks (Some added ∷ []) h.below (All-cons (IsSlotBelow count) (Some added) [] fresh (All-nil (IsSlotBelow count)));
    now_is = h.now_is;
    not_queued = λ s less. rw (map-append (slot_from now) chunks (Some added ∷ []), chunk_at-push (map (slot_from now) chunks) (Some (chunk_from now added)) s)
        (either (s == length (map (slot_from now) chunks)) (Some (chunk_from now added)) (chunk_at (map (slot_from now) chunks) s) staged (h.not_queued s less));
  })

-- Events were stored in the sink.

first_of-view : {A : Type 0} (now count : ℕ) (slot : Option (KeptChunk A)) → first_of slot count ≡ option_map_or (λ chunk. events_of chunk.tag (take count chunk.entries)) (slot_from now slot) []
first_of-view now count None = refl
first_of-view now count (Some chunk) = refl

pub contents_from-stored : {A : Type 0} (now : ℕ) (chunks : List (Option (KeptChunk A))) (serial count : ℕ) (slot : Option (KeptChunk A)) (sink after events : List (Stored A)) (answered : List Bool)
    → serial < length (map (slot_from now) chunks) → slot ≡ get_or chunks serial slot → after ≡ sink ++ events → stored_events events ≡ first_of slot count
    → contents_from now chunks after answered ≡ record (contents_from now chunks sink answered) {
      sink = stored_events sink ++ option_map_or (λ chunk. events_of chunk.tag (take count chunk.entries)) (chunk_at (map (slot_from now) chunks) serial) [];
    }
contents_from-stored now chunks serial count slot sink after events answered within is e a = ap
    (λ (all : List Event). record (contents_from now chunks sink answered) { sink = all })
    (ap stored_events e ∙ map-append event_of sink events ∙ ap (λ (more : List Event). stored_events sink ++ more)
    (a ∙ first_of-view now count slot ∙ ap (λ (o : Option Chunk). option_map_or (λ chunk. events_of chunk.tag (take count chunk.entries)) o []) (sym (chunk_at-view now chunks serial slot (simp length-map at within) is))))

pub count_within : {A : Type 0} (now : ℕ) (chunks : List (Option (KeptChunk A))) (serial count : ℕ) (slot : Option (KeptChunk A)) → serial < length (map (slot_from now) chunks) → slot ≡ get_or chunks serial slot
    → ForSome (chunk_at (map (slot_from now) chunks) serial) (λ chunk. count ≤ length chunk.entries) → ForSome slot (λ chunk. count ≤ length chunk.entries.items)
count_within now chunks serial count slot within is h chunk e = simp length-map at (h (chunk_from now chunk) (chunk_at-view now chunks serial slot (simp length-map at within) is ∙ ap (slot_from now) e))

-- A restart.

stage_at-later : (count now : ℕ) (stage : Kept) → IsStageBelow count stage → stage_at count stage ≡ unclaimed (stage_at now stage)
stage_at-later count now kept.Staged h = refl
stage_at-later count now kept.Queued h = refl
stage_at-later count now (kept.Claimed since) h =
    ap (λ b. cond b Claimed Queued) (ne_eqb since count (omega arith))
    ∙ elim (since == now) as (λ b. Queued ≡ unclaimed (cond b Claimed Queued)) [ true ↦ refl | false ↦ refl ]

is_since-later : (count : ℕ) (mark : Option ℕ) → IsMarkBelow count mark → is_since count mark ≡ false
is_since-later count None h = refl
is_since-later count (Some since) h = ne_eqb since count (omega arith)

slot_from-later : {A : Type 0} (count now : ℕ) (slot : Option (KeptChunk A)) → IsSlotBelow count slot → slot_from count slot ≡ option_map restarted (slot_from now slot)
slot_from-later count now None h = refl
slot_from-later count now (Some chunk) h = λ i. Some (record (restarted (chunk_from now chunk)) {
  stage = stage_at-later count now chunk.stage h.stage i;
  evidence = is_since-later count chunk.evidence h.evidence i;
  forwarded = is_since-later count chunk.forwarded h.forwarded i;
})

slots_later : {A : Type 0} (count now : ℕ) (chunks : List (Option (KeptChunk A))) → AllByRecursion (IsSlotBelow count) chunks → map (slot_from count) chunks ≡ map (option_map restarted) (map (slot_from now) chunks)
slots_later count now [] h = refl
slots_later count now (slot ∷ chunks) h = λ i. slot_from-later count now slot h.0 i ∷ slots_later count now chunks h.1 i

pub contents_from-later : {A : Type 0} (count now : ℕ) (chunks : List (Option (KeptChunk A))) (sink : List (Stored A)) (answered : List Bool) → All (IsSlotBelow count) chunks
    → contents_from count chunks sink answered ≡ record (contents_from now chunks sink answered) { chunks = restarted_chunks false (map (slot_from now) chunks) }
contents_from-later count now chunks sink answered h = ap (λ (slots : List (Option Chunk)). record (contents_from now chunks sink answered) { chunks = slots })
    (slots_later count now chunks (recursion_from_All (IsSlotBelow count) chunks h))

pub sound_again : {A : Type 0} (count n : ℕ) (chunks : List (Option (KeptChunk A))) → n ≡ count → All (IsSlotBelow count) chunks → IsSound count n 0 chunks
sound_again count n chunks e below = record { below = below; now_is = omega arith; not_queued = λ s less. absurd (omega arith) }

-- where nothing is kept, nothing is marked
pub no_slots : {A : Type 0} (count : ℕ) (chunks : List (Option (KeptChunk A))) → chunks ≡ [] → All (IsSlotBelow count) chunks
no_slots count chunks e = rw e (All-nil (IsSlotBelow count))

-- what holds of the chunk at a serial, as the buffer shows it, holds of the slot there
pub slot_shown : {A : Type 0} (now : ℕ) (chunks : List (Option (KeptChunk A))) (serial : ℕ) (P : Chunk → Type 0) → IsSomeAnd (chunk_at (map (slot_from now) chunks) serial) P
    → (slot : Option (KeptChunk A)) × (serial < length chunks) × (get_or chunks serial slot ≡ slot) × IsSomeAnd (slot_from now slot) P
slot_shown now [] serial P h = absurd h
slot_shown now (slot ∷ chunks) zero P h = (slot, omega arith, refl, h)
slot_shown now (slot ∷ chunks) (suc serial) P h = let w = slot_shown now chunks serial P h in (w.0, omega arith, w.2, w.3)

-- what holds of a slot holds of the chunk at its serial, as the buffer shows it
pub slot_there : {A : Type 0} (now : ℕ) (chunks : List (Option (KeptChunk A))) (serial : ℕ) (slot : Option (KeptChunk A)) (P : Chunk → Type 0) → serial < length chunks → slot ≡ get_or chunks serial slot
    → IsSomeAnd (slot_from now slot) P → IsSomeAnd (chunk_at (map (slot_from now) chunks) serial) P
slot_there now chunks serial slot P within is h = subst (λ (o : Option Chunk). IsSomeAnd o P) (sym (chunk_at-view now chunks serial slot within is)) h

-- Where an event may be appended.

pub takes_there : {A : Type 0} (now : ℕ) (chunks : List (Option (KeptChunk A))) (serial : ℕ) (slot : Option (KeptChunk A)) (tag : List ℕ) (b : Bool) → serial < length chunks → slot ≡ get_or chunks serial slot
    → (b ≡ true) ↔ IsSomeAnd (slot_from now slot) (λ chunk. (chunk.stage ≡ Staged) × (chunk.tag ≡ tag))
    → (b ≡ true) ↔ (IsSomeAnd (chunk_at (map (slot_from now) chunks) serial) (λ chunk. (chunk.stage ≡ Staged) × (chunk.tag ≡ tag)) ⊎ (serial ≡ length (map (slot_from now) chunks)))
takes_there now chunks serial slot tag b within is h =
    let at = chunk_at-view now chunks serial slot within is in
    rw at (λ t. inl (h.0 t), λ s. elim s [ inl staged ↦ h.1 staged | inr next ↦ absurd (let n = simp length-map at next in omega arith) ])

pub takes_past : {A : Type 0} (now : ℕ) (chunks : List (Option (KeptChunk A))) (serial : ℕ) (tag : List ℕ) (b : Bool) → length chunks ≤ serial → (b ≡ true) ↔ (serial ≡ length chunks)
    → (b ≡ true) ↔ (IsSomeAnd (chunk_at (map (slot_from now) chunks) serial) (λ chunk. (chunk.stage ≡ Staged) × (chunk.tag ≡ tag)) ⊎ (serial ≡ length (map (slot_from now) chunks)))
takes_past now chunks serial tag b past h =
    let none = chunk_at_past (map (slot_from now) chunks) serial (simp length-map past) in
    rw (none, length-map chunks (slot_from now)) (λ t. inr (h.0 t), λ s. elim s [ inl staged ↦ absurd staged | inr next ↦ h.1 next ])

-- The oldest queued chunk.

pub none_below : (chunks : ℕ → Option Chunk) (n : ℕ) → ((s : ℕ) → s < n → is_queued (chunks s) ≡ false) → none_queued_below n chunks ≡ true
none_below chunks zero h = refl
none_below chunks (suc n) h = and_from (not (is_queued (chunks n))) (none_queued_below n chunks) (ap not (h n (omega arith))) (none_below chunks n (λ s less. h s (omega arith)))

pub sound_next : {A : Type 0} (count now least : ℕ) (chunks : List (Option (KeptChunk A))) → IsSound count now least chunks → is_queued (chunk_at (map (slot_from now) chunks) least) ≡ false → IsSound count now (least + 1) chunks
sound_next count now least chunks h here = record {
  below = h.below;
  now_is = h.now_is;
  not_queued = λ s less. elim (cases_eq s least) as (λ _. is_queued (chunk_at (map (slot_from now) chunks) s) ≡ false) [
    | inl e ↦ rw e here
    | inr apart ↦ h.not_queued s (omega arith)
  ];
}

pub none_queued : {A : Type 0} (count now least : ℕ) (chunks : List (Option (KeptChunk A))) → IsSound count now least chunks → length chunks ≤ least → (s : ℕ) → is_queued (chunk_at (map (slot_from now) chunks) s) ≡ false
none_queued count now least chunks h past s = elim (cases_lt s least) as (λ _. is_queued (chunk_at (map (slot_from now) chunks) s) ≡ false) [
  | inl less ↦ h.not_queued s less
  | inr more ↦ rw (chunk_at_past (map (slot_from now) chunks) s (simp length-map (omega arith))) refl
]

-- Answers.

pub flag_at-push : (flags : List Bool) (s : ℕ) → flag_at (flags ++ false ∷ []) s ≡ flag_at flags s
flag_at-push [] zero = refl
flag_at-push [] (suc s) = refl
flag_at-push (f ∷ flags) zero = refl
flag_at-push (f ∷ flags) (suc s) = flag_at-push flags s

flag_at-set_same : (flags : List Bool) (k : ℕ) → k < length flags → flag_at (set flags k true) k ≡ true
flag_at-set_same [] k h = absurd (omega arith)
flag_at-set_same (f ∷ flags) zero h = refl
flag_at-set_same (f ∷ flags) (suc k) h = flag_at-set_same flags k (omega arith)

flag_at-set_other : (flags : List Bool) (k s : ℕ) → (s ≡ k → ⊥) → flag_at (set flags k true) s ≡ flag_at flags s
flag_at-set_other [] k s apart = refl
flag_at-set_other (f ∷ flags) zero zero apart = absurd (apart refl)
flag_at-set_other (f ∷ flags) zero (suc s) apart = refl
flag_at-set_other (f ∷ flags) (suc k) zero apart = refl
flag_at-set_other (f ∷ flags) (suc k) (suc s) apart = flag_at-set_other flags k s (λ e. apart (ap suc e))

pub flag_at-set : (flags : List Bool) (k s : ℕ) → k < length flags → flag_at (set flags k true) s ≡ cond (s == k) true (flag_at flags s)
flag_at-set flags k s h = elim (cases_eq s k) as (λ _. flag_at (set flags k true) s ≡ cond (s == k) true (flag_at flags s)) [
  | inl e ↦ rw (e, eq-eqb k k refl) (flag_at-set_same flags k h)
  | inr apart ↦ rw (ne_eqb s k apart) (flag_at-set_other flags k s apart)
]
