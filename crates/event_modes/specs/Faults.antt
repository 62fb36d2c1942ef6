-- Why bytes are no message: the first fault, in the order in which the parts of a message are
-- examined.
use Rattle.std.specs.Prelude.{ℕ, ◌≡◌, ◌≢◌, ◌⊎◌, List, [], ◌∷◌, ◌++◌, take, IsSomeAnd, Option, Some, None, codes}
use Rattle.std.specs.List.{AllByRecursion, concat, slice_get}
use Rattle.msgpack_bytes.specs.declared.answers.MsgFault.{MsgFault}
use Rattle.msgpack_bytes.specs.Item.{IsItemWithin, IsOpen}
use Rattle.msgpack_bytes.specs.Kinds.{IsNil}
use Rattle.msgpack_bytes.specs.Fault.{IsFaulty}
use Rattle.event_modes.specs.declared.fault.ModeFault.{ModeFault}
use Rattle.event_modes.specs.declared.fault.ModeFault.TheVariants.{NotAMessage, BadTag, BadTime, BadRecord, BadEntry, TornPacked, Compressed, BadOption, Bytes}
use Rattle.msgpack_bytes.specs.Containers.{Pair, IsArray, IsMap}
use Rattle.event_modes.specs.Entry.{IsTime, IsRecord, IsEntry}
use Rattle.msgpack_bytes.specs.Names.{IsNamed}
use Rattle.event_modes.specs.Options.{IsChunk, IsUncompressed, IsFit}
use Rattle.event_modes.specs.Message.{Carrier, Single, Forward, Packed, Frame, IsFrame, IsTag, Carries}

-- one is bad, and all before it are good
abbrev pub FirstBad : {X : Type 0} → (X → Type 0) → (X → Type 0) → List X → Type 0
FirstBad Good Bad all = (k : ℕ) × AllByRecursion Good (take k all) × IsSomeAnd (slice_get all k) Bad

-- a time and then a record
abbrev pub EventFault : List ℕ → List ℕ → ModeFault → Type 0
EventFault time fields fault = ((fault ≡ BadTime) × (IsTime time → ⊥))
    ⊎ ((fault ≡ BadRecord) × IsTime time × (IsRecord fields → ⊥))

-- an entry: first that it is an array of two
abbrev pub EntryFault : List ℕ → ModeFault → Type 0
EntryFault bytes fault =
    ((fault ≡ BadEntry) × ((time fields : List ℕ) → IsArray (time ∷ fields ∷ []) bytes → ⊥))
    ⊎ ((time : List ℕ) × (fields : List ℕ) × IsArray (time ∷ fields ∷ []) bytes
    × EventFault time fields fault)

-- an array of a time and a record
abbrev pub IsGoodEntry : List ℕ → Type 0
IsGoodEntry bytes = (stored : List ℕ) × IsEntry bytes stored

-- no item begins so, for this reason, or the item that the bytes begin with has such a fault
abbrev pub BeginsBadly : (List ℕ → ModeFault → Type 0) → List ℕ → ModeFault → Type 0
BeginsBadly ItsFault bytes fault = ((why : MsgFault) × (fault ≡ Bytes why) × IsFaulty why bytes)
    ⊎ ((item : List ℕ) × (more : List ℕ) × IsItemWithin item × ItsFault item fault
    × (bytes ≡ item ++ more))

-- what stands behind the last good entry of a PackedForward message's entries
abbrev pub PackedFault : List ℕ → ModeFault → Type 0
PackedFault rest fault = ((fault ≡ TornPacked) × (rest ≢ []) × IsOpen rest)
    ⊎ BeginsBadly EntryFault rest fault

-- the first bad entry; only packed entries can be torn or no items at all
abbrev pub CarriedFault : Carrier → ModeFault → Type 0
CarriedFault (Single time fields) fault = EventFault time fields fault
CarriedFault (Forward array) fault = (items : List (List ℕ)) × IsArray items array
    × FirstBad IsGoodEntry (λ item. EntryFault item fault) items
CarriedFault (Packed content) fault = (items : List (List ℕ)) × (rest : List ℕ)
    × AllByRecursion IsItemWithin items × AllByRecursion IsGoodEntry items
    × (content ≡ concat items ++ rest) × PackedFault rest fault

-- what is wrong with one pair of an option
abbrev pub PairFault : ModeFault → Pair → Type 0
PairFault fault pair =
    ((fault ≡ BadOption) × IsNamed (codes "chunk") pair × (IsChunk pair.value → ⊥))
    ⊎ ((fault ≡ Compressed) × IsNamed (codes "compressed") pair
    × (IsUncompressed pair.value → ⊥))

-- an option that is neither nil nor a map, or the first bad pair of one
abbrev pub OptionFault : Option (List ℕ) → ModeFault → Type 0
OptionFault None fault = ⊥
OptionFault (Some bytes) fault =
    ((fault ≡ BadOption) × (IsNil bytes → ⊥) × ((pairs : List Pair) → IsMap pairs bytes → ⊥))
    ⊎ ((pairs : List Pair) × IsMap pairs bytes × FirstBad IsFit (PairFault fault) pairs)

-- the tag, then the entries, then the option
abbrev pub FrameFault : Frame → ModeFault → Type 0
FrameFault frame fault = ((fault ≡ BadTag) × ((tag : List ℕ) → IsTag frame.tag tag → ⊥))
    ⊎ (((tag : List ℕ) × IsTag frame.tag tag × CarriedFault frame.carrier fault)
    ⊎ ((tag : List ℕ) × (entries : List (List ℕ)) × IsTag frame.tag tag
    × Carries frame.carrier entries × OptionFault frame.option fault))

-- an item that is neither nil nor a message: it has not the places of any mode, or the first fault
-- in them
abbrev pub ItemFault : List ℕ → ModeFault → Type 0
ItemFault bytes fault =
    ((fault ≡ NotAMessage) × (IsNil bytes → ⊥) × ((frame : Frame) → IsFrame bytes frame → ⊥))
    ⊎ ((frame : Frame) × IsFrame bytes frame × FrameFault frame fault)

-- what keeps the bytes from beginning with a message or a nil, however they go on
abbrev pub StreamFault : List ℕ → ModeFault → Type 0
StreamFault bytes fault = BeginsBadly ItemFault bytes fault

-- packed bytes that begin with no whole item: they end inside one, or no item begins so
abbrev pub PackedEnd : List ℕ → ModeFault → Type 0
PackedEnd rest TornPacked = IsOpen rest
PackedEnd rest (Bytes fault) = IsFaulty fault rest
PackedEnd rest _ = ⊥
