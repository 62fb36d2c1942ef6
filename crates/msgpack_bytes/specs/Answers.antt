-- What the answers of the readers mean.
use Rattle.std.specs.Prelude.{ℕ, ◌≡◌, ◌<◌, ◌≤◌, List, ◌++◌, length, drop, slice_range, Option, Some, None}
use Rattle.msgpack_bytes.specs.declared.answers.Scan.{Scan}
use Rattle.msgpack_bytes.specs.declared.answers.Scan.TheVariants.{End, Need, Bad}
use Rattle.msgpack_bytes.specs.declared.answers.Head.{Head}
use Rattle.msgpack_bytes.specs.declared.answers.Head.TheVariants as head
use Rattle.msgpack_bytes.specs.declared.format.Container.{Container}
use Rattle.msgpack_bytes.specs.Item.{IsScalar, IsContainerHeader, IsItemWithin, IsOpen}
use Rattle.msgpack_bytes.specs.Kinds.{IsNil, IsBool, IsInteger, IsFloat, IsStr, IsBin, IsExt, IsArrayHeader, IsMapHeader}
use Rattle.msgpack_bytes.specs.Fault.{IsFaulty}

-- where the item at `at` ends
abbrev pub IsScanned : List ℕ → ℕ → Scan → Type 0
IsScanned bytes at (End end) = (at ≤ end) × (end ≤ length bytes)
    × IsItemWithin (slice_range bytes at end)
IsScanned bytes at Need = IsOpen (drop at bytes)
IsScanned bytes at (Bad fault) = IsFaulty fault (drop at bytes)

-- some front of the bytes is such
pub record Begins (what : List ℕ → Type 0) (bytes : List ℕ) : Type 0 where
  pub front : List ℕ
  pub back : List ℕ
  pub is : what front
  pub whole : bytes ≡ front ++ back

-- the header of an array or a map
abbrev pub IsSomeHeader : List ℕ → Type 0
IsSomeHeader header = (container : Container) × (n : ℕ) × IsContainerHeader container n header

-- what stands at `at`; of a scalar the whole item has to be there, of a container the header
abbrev pub IsHead : List ℕ → ℕ → Option Head → Type 0
IsHead bytes at None =
    (Begins IsScalar (drop at bytes) → ⊥) × (Begins IsSomeHeader (drop at bytes) → ⊥)
IsHead bytes at (Some head.Nil) = Begins IsNil (drop at bytes)
IsHead bytes at (Some (head.Bool value)) = Begins (IsBool value) (drop at bytes)
IsHead bytes at (Some (head.Int value)) = Begins (λ front. IsInteger front value) (drop at bytes)
IsHead bytes at (Some head.Float) = Begins IsFloat (drop at bytes)
IsHead bytes at (Some (head.Str start end)) =
    (at < start) × (start ≤ end) × (end ≤ length bytes) × IsStr (slice_range bytes at end)
    (slice_range bytes start end)
IsHead bytes at (Some (head.Bin start end)) =
    (at < start) × (start ≤ end) × (end ≤ length bytes) × IsBin (slice_range bytes at end)
    (slice_range bytes start end)
IsHead bytes at (Some (head.Ext type_byte start end)) =
    (at < start) × (start ≤ end) × (end ≤ length bytes) × IsExt type_byte (slice_range bytes at end)
    (slice_range bytes start end)
IsHead bytes at (Some (head.Array count next)) = (at < next) × (next ≤ length bytes)
    × IsArrayHeader count (slice_range bytes at next)
IsHead bytes at (Some (head.Map count next)) = (at < next) × (next ≤ length bytes)
    × IsMapHeader count (slice_range bytes at next)
