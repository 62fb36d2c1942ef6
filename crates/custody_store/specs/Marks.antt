-- How a buffer keeps what a restart ends: by the generation in which it came, which each restart
-- changes.
use Rattle.std.specs.Prelude.{◌≡◌, ℕ, ◌<◌, ◌≤◌, ◌==◌, Bool, false, cond, List, [], map, take, Option, Some, None, option_map, IfSome, All}
use Rattle.std.specs.Option.{option_map_or}
use Rattle.step_lines.specs.Texts.{texts_of}
use Rattle.custody_store.specs.Buffers.{Event, Chunk, events_of, is_queued}
use Rattle.custody_store.specs.Contents.{Contents, chunk_at, stored_events}
use Rattle.custody_store.specs.declared.chunk.Stage.{Stage}
use Rattle.custody_store.specs.declared.chunk.Stage.TheVariants.{Staged, Queued, Claimed}
use Rattle.custody_store.specs.declared.chunk.Kept.{Kept}
use Rattle.custody_store.specs.declared.chunk.Kept.TheVariants as kept
use Rattle.custody_store.specs.declared.chunk.Chunk.{Chunk as KeptChunk}
use Rattle.custody_store.specs.declared.event.Event.{Event as Stored}

-- the stage as it is in this generation
abbrev pub stage_at : ℕ → Kept → Stage
stage_at now kept.Staged = Staged
stage_at now kept.Queued = Queued
stage_at now (kept.Claimed since) = cond (since == now) Claimed Queued

-- the stage, kept in this generation
abbrev pub kept_at : ℕ → Stage → Kept
kept_at now Staged = kept.Staged
kept_at now Queued = kept.Queued
kept_at now Claimed = kept.Claimed now

-- whether it came in this generation
abbrev pub is_since : ℕ → Option ℕ → Bool
is_since now None = false
is_since now (Some since) = since == now

-- the chunk that is kept so, as it is in this generation
abbrev pub chunk_from : {A : Type 0} → ℕ → KeptChunk A → Chunk
chunk_from now chunk = record {
  tag = chunk.tag;
  entries = texts_of chunk.entries.items;
  stage = stage_at now chunk.stage;
  evidence = is_since now chunk.evidence;
  forwarded = is_since now chunk.forwarded;
}

-- the same of a place that may be empty
abbrev pub slot_from : {A : Type 0} → ℕ → Option (KeptChunk A) → Option Chunk
slot_from now slot = option_map (chunk_from now) slot

-- a mark of a generation below this count
abbrev pub IsMarkBelow : ℕ → Option ℕ → Type 0
IsMarkBelow count mark = IfSome mark (λ since. since < count)

-- A claim is of a generation below this count.
abbrev pub IsStageBelow : ℕ → Kept → Type 0
IsStageBelow count kept.Staged = Unit {0}
IsStageBelow count kept.Queued = Unit {0}
IsStageBelow count (kept.Claimed since) = since < count

-- Each mark of the chunk in the slot is of a generation below this count.
pub record IsChunkBelow {A : Type 0} (count : ℕ) (chunk : KeptChunk A) : Type 0 where
  pub stage : IsStageBelow count chunk.stage
  pub evidence : IsMarkBelow count chunk.evidence
  pub forwarded : IsMarkBelow count chunk.forwarded

-- the same of a place that may be empty
abbrev pub IsSlotBelow : {A : Type 0} → ℕ → Option (KeptChunk A) → Type 0
IsSlotBelow count slot = IfSome slot (IsChunkBelow count)

-- the chunk in this stage
abbrev pub restaged : {A : Type 0} → Kept → KeptChunk A → KeptChunk A
restaged kept chunk = record chunk { stage = kept }

-- the chunk with evidence in this generation
abbrev pub evident : {A : Type 0} → ℕ → KeptChunk A → KeptChunk A
evident now chunk = record chunk { evidence = Some now }

-- the chunk, forwarded in this generation
abbrev pub sent_on : {A : Type 0} → ℕ → KeptChunk A → KeptChunk A
sent_on now chunk = record chunk { forwarded = Some now }

-- the first entries of the chunk, so many of them, as events
abbrev pub first_of : {A : Type 0} → Option (KeptChunk A) → ℕ → List Event
first_of slot count =
    option_map_or (λ chunk. events_of chunk.tag (take count (texts_of chunk.entries.items))) slot []

-- the contents of a buffer with these parts, in this generation
abbrev pub contents_from : {A : Type 0} → ℕ → List (Option (KeptChunk A)) → List (Stored A)
    → List Bool → Contents
contents_from now chunks sink answered =
    record { chunks = map (slot_from now) chunks; sink = stored_events sink; answered = answered }

-- After so many claims the generation is new to no chunk: a restart finds one that no mark has.
-- Below the least serial nothing is queued.
pub record IsSound {A : Type 0} (count now least : ℕ)
    (chunks : List (Option (KeptChunk A))) : Type 0 where
  pub below : All (IsSlotBelow count) chunks
  pub now_is : now ≤ count
  pub not_queued : (serial : ℕ) → serial < least
      → is_queued (chunk_at (map (slot_from now) chunks) serial) ≡ false
