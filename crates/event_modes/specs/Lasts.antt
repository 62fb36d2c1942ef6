-- The last value of a name, where it lies.
use Rattle.std.specs.Prelude.{ℕ, ◌≡◌, List, length}
use Rattle.std.specs.List.{concat}
use Rattle.event_modes.specs.declared.option.LastValue.{LastValue}
use Rattle.msgpack_bytes.specs.Containers.{Pair, pair_items}
use Rattle.msgpack_bytes.specs.Names.{IsLastValue}

-- the value is the last of this name, and so many bytes of pairs stand behind it
pub record IsLast (name : List ℕ) (pairs : List Pair) (found : LastValue) : Type 0 where
  pub last : IsLastValue name pairs found.value.now
  pub behind : found.behind ≡ length (concat (pair_items last.after))
