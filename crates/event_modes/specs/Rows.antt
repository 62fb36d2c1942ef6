-- Items, and stored entries, one after another as one list of bytes.
use Rattle.std.specs.Prelude.{ℕ, zero, suc, ◌≡◌, ◌-◌, List, [], ◌∷◌, ◌++◌, length, take}
use Rattle.std.specs.Result.{result_unwrap_or}
use Rattle.std.specs.List.{AllByRecursion, concat}
use Rattle.msgpack_bytes.specs.Item.{deepest, IsItemWithin}
use Rattle.msgpack_bytes.specs.Run.{run}
use Rattle.event_modes.specs.Entry.{IsEntry}

-- what is behind the item that the bytes begin with
abbrev pub behind_item : List ℕ → List ℕ
behind_item bytes = result_unwrap_or (run deepest bytes) []

-- the items that the bytes begin with, so many of them
unfoldable pub items_of : ℕ → List ℕ → List (List ℕ)
items_of zero bytes = []
items_of (suc count) bytes =
    take (length bytes - length (behind_item bytes)) bytes ∷ items_of count (behind_item bytes)

-- the bytes are so many items
pub record AreItems (count : ℕ) (bytes : List ℕ) : Type 0 where
  pub each : AllByRecursion IsItemWithin (items_of count bytes)
  pub whole : bytes ≡ concat (items_of count bytes)

-- an entry as it is stored is spelled as it is stored
pub record IsStored (entry : List ℕ) : Type 0 where
  pub item : IsItemWithin entry
  pub kept : IsEntry entry entry

-- the bytes are so many stored entries
pub record AreStored (count : ℕ) (bytes : List ℕ) : Type 0 where
  pub items : AreItems count bytes
  pub each : AllByRecursion IsStored (items_of count bytes)

-- the bytes are these stored entries, so many
pub record AreEntries (entries : List (List ℕ)) (count : ℕ) (bytes : List ℕ) : Type 0 where
  pub each : AllByRecursion IsStored entries
  pub all : length entries ≡ count
  pub whole : concat entries ≡ bytes

-- the bytes are so many stored entries
abbrev pub SomeEntries : ℕ → List ℕ → Type 0
SomeEntries count bytes = (entries : List (List ℕ)) × AreEntries entries count bytes

-- the entries are those before, and behind them that of this item
pub record IsAdded (item : List ℕ) (before entries : List (List ℕ)) : Type 0 where
  pub stored : List ℕ
  pub entry : IsEntry item stored
  pub all : entries ≡ before ++ stored ∷ []
