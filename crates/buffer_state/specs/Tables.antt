-- What holds of the chunks in memory, and of what is kept beside them.
use Rattle.std.specs.Prelude.{ℕ, ◌≡◌, ◌≤◌, List, length, ◌<◌, ◌^◌}
use Rattle.std.specs.List.{All}
use Rattle.std.specs.List.Sorted.{IsStrictlySortedBy}
use Rattle.std.specs.Map.{keys_of, values_of}
use Rattle.std.specs.Ordering.{nat_cmp}
use Rattle.buffer_state.specs.declared.tags.TagIndex.{TagIndex}
use Rattle.buffer_state.specs.Tags.{serials_at}
use Rattle.buffer_state.specs.Slots.{Slots, slots_size, slot_size, staged_in}
use Rattle.buffer_state.specs.Steps.{greatest_size}

-- the serials rise, no chunk is too large, and the index and the sum are those of the chunks
pub record IsTable {A : Type 0} (slots : Slots) (tags : TagIndex A) (total : ℕ) : Type 0 where
  pub rising : IsStrictlySortedBy nat_cmp (keys_of slots)
  pub few : length slots < 2 ^ 63
  pub small : All (λ slot. slot_size slot ≤ greatest_size) (values_of slots)
  pub summed : total ≡ slots_size slots
  pub indexed : (tag : List ℕ) → serials_at tags tag ≡ staged_in slots tag
