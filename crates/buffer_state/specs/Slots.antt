-- What the contracts of a chunk in memory see.
use Rattle.std.specs.Prelude.{ℕ, ◌≡◌, ◌<◌, ◌&&◌, Bool, List, ◌++◌, map, filter, sum_by, length, Option, bytes_eq}
use Rattle.std.specs.List.{AllByRecursion}
use Rattle.std.specs.Option.{option_map_or}
use Rattle.std.specs.Map.{lookup, set_value, keys_of, values_of}
use Rattle.std.specs.Ordering.{nat_cmp}
use Rattle.std.specs.BTreeMap.{is_at}
use Rattle.event_modes.specs.Rows.{IsStored}
use Rattle.buffer_state.specs.declared.chunk.Stage.{Stage}
use Rattle.buffer_state.specs.declared.chunk.Stage.TheVariants.{Staged}
use Rattle.buffer_state.specs.State.{Chunk, Numbered, size, is_staged}

-- A chunk, as it is held in memory.
pub record Slot : Type 0 where
  pub chunk : Chunk

-- entries that can be stored, so many, of so many bytes
pub record AreKept (count bytes : ℕ) (entries : List (List ℕ)) : Type 0 where
  pub counted : count ≡ length entries
  pub sized : bytes ≡ size entries
  pub each : AllByRecursion IsStored entries

-- with these entries behind the others
abbrev pub grown : List (List ℕ) → Slot → Slot
grown entries slot =
    record { chunk = record slot.chunk { entries = slot.chunk.entries ++ entries } }

-- in this stage
abbrev pub put : Stage → Slot → Slot
put stage slot = record { chunk = record slot.chunk { stage = stage } }

-- slots by serial
abbrev pub Slots : Type 0
Slots = List (ℕ × Slot)

-- the slot of this serial
abbrev pub slot_at : Slots → ℕ → Option Slot
slot_at slots serial = lookup (is_at (nat_cmp serial)) slots

-- the slots with the one of this serial changed
abbrev pub changed_at : ℕ → (Slot → Slot) → Slots → Slots
changed_at serial change slots =
    option_map_or (λ slot. set_value (is_at (nat_cmp serial)) slots (change slot))
    (slot_at slots serial) slots

-- the chunks in the slots
abbrev pub chunks_in : Slots → List Numbered
chunks_in slots = map (λ numbered. (numbered.0, numbered.1.chunk)) slots

-- a staged chunk of these entries
abbrev pub fresh : List ℕ → List (List ℕ) → Slot
fresh tag entries = record { chunk = record { tag = tag; entries = entries; stage = Staged } }

-- how many bytes of entries a slot has
abbrev pub slot_size : Slot → ℕ
slot_size slot = size slot.chunk.entries

-- how many bytes of entries the slots have together
abbrev pub slots_size : Slots → ℕ
slots_size slots = sum_by slot_size (values_of slots)

-- whether the slot is staged and of this tag
abbrev pub is_staged_of : List ℕ → ℕ × Slot → Bool
is_staged_of tag numbered = is_staged numbered.1.chunk.stage && bytes_eq tag numbered.1.chunk.tag

-- the serials of the staged slots of this tag
abbrev pub staged_in : Slots → List ℕ → List ℕ
staged_in slots tag = keys_of (filter (is_staged_of tag) slots)

-- each of the serials is below this one
abbrev pub AreBelow : ℕ → List ℕ → Type 0
AreBelow bound serials = AllByRecursion (λ serial. serial < bound) serials
