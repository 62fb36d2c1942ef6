-- What holds of items, apart from any call.
use Rattle.std.specs.Prelude.{ℕ, suc, ◌≡◌, ◌+◌, ◌<◌, ◌≤◌, ◌↔◌, List, [], ◌++◌, length, replicate, Ok, Err}
use Rattle.msgpack_bytes.specs.declared.answers.MsgFault.TheVariants.{TooLong}
use Rattle.msgpack_bytes.specs.declared.format.Container.{Container}
use Rattle.msgpack_bytes.specs.Format.{items_in}
use Rattle.msgpack_bytes.specs.Item.{IsContainerHeader, Item, longest, deepest, IsItemWithin, IsOpen}
use Rattle.msgpack_bytes.specs.Parts.{Row}
use Rattle.msgpack_bytes.specs.Fault.{IsFaulty}
use Rattle.msgpack_bytes.specs.Stops.{EndsReserved, EndsTooDeep}
use Rattle.msgpack_bytes.specs.Run.{Missing, Reserved, Deep, run}

-- no item within the limits is a proper beginning of another
abbrev pub IsPrefixFree : Type 0
IsPrefixFree = (item more : List ℕ) → IsItemWithin item → IsItemWithin (item ++ more) → more ≡ []

-- so bytes begin with one item within the limits at most
abbrev pub HasOneFront : Type 0
HasOneFront = (a b x y : List ℕ) → IsItemWithin a → IsItemWithin b → a ++ x ≡ b ++ y
    → (a ≡ b) × (x ≡ y)

-- the parts of a container nest one less deep
abbrev pub HasParts : Type 0
HasParts =
    (depth n : ℕ) (container : Container) (header inner : List ℕ)
    → IsContainerHeader container n header → Item (suc depth) (header ++ inner)
    → Row (Item depth) (items_in container n) inner

-- the parts of an item within the limits are within them too
abbrev pub HasPartsWithin : Type 0
HasPartsWithin =
    (n : ℕ) (container : Container) (header inner : List ℕ) → IsContainerHeader container n header
    → IsItemWithin (header ++ inner) → Row IsItemWithin (items_in container n) inner

-- an item may nest less deep than it might
abbrev pub IsItemDeeper : Type 0
IsItemDeeper = (depth : ℕ) (bytes : List ℕ) → Item depth bytes → Item (suc depth) bytes

-- open bytes become an item within the limits by so many zeros, and by nothing shorter
abbrev pub IsOpenForZeros : Type 0
IsOpenForZeros = (bytes : List ℕ) → IsOpen bytes → (n : ℕ) × IsItemWithin (bytes ++ replicate n 0)
    × ((more : List ℕ) → IsItemWithin (bytes ++ more) → n ≤ length more)

-- where the length is at fault, an item begins so, and each one that does is too long
abbrev pub IsLongOnly : Type 0
IsLongOnly =
    (bytes : List ℕ) → (fault : IsFaulty TooLong bytes)
    → ((more : List ℕ) × Item deepest (fault.shortest ++ more))
    × ((more : List ℕ) → Item deepest (fault.shortest ++ more)
    → longest < length (fault.shortest ++ more))

-- reading by recursion, of which the proofs speak: an item is read, whatever follows, and nothing
-- else is
abbrev pub IsItemRead : Type 0
IsItemRead = (depth : ℕ) (bytes rest : List ℕ) → (run depth bytes ≡ Ok rest)
    ↔ ((item : List ℕ) × Item depth item × (bytes ≡ item ++ rest))

-- it lacks bytes exactly where the list is open, but for the limit
abbrev pub IsOpenRead : Type 0
IsOpenRead = (bytes : List ℕ) → IsOpen bytes
    ↔ ((n : ℕ) × (run deepest bytes ≡ Err (Missing n)) × (length bytes + n ≤ longest))

-- and stops at c1 in the place of an item, and at a container that nests too deep
abbrev pub IsReservedRead : Type 0
IsReservedRead = (bytes : List ℕ) → (run deepest bytes ≡ Err Reserved)
    ↔ ((front : List ℕ) × (back : List ℕ) × EndsReserved front × (bytes ≡ front ++ back))

-- and it stops so at a container that nests too deep
abbrev pub IsDeepRead : Type 0
IsDeepRead = (bytes : List ℕ) → (run deepest bytes ≡ Err Deep)
    ↔ ((front : List ℕ) × (back : List ℕ) × EndsTooDeep front × (bytes ≡ front ++ back))
