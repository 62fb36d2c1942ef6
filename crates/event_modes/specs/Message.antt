-- Messages (Forward Protocol Specification v1, "Message Modes").
use Rattle.std.specs.Prelude.{ℕ, ◌≡◌, ◌≤◌, List, [], ◌∷◌, length, Option}
use Rattle.std.specs.Option.{option_to_list}
use Rattle.std.specs.List.{AllByRecursion, AllZip, concat}
use Rattle.msgpack_bytes.specs.Item.{IsItemWithin}
use Rattle.msgpack_bytes.specs.Kinds.{IsText}
use Rattle.msgpack_bytes.specs.Containers.{IsArray}
use Rattle.event_modes.specs.Entry.{IsTime, IsRecord, stored_entry, IsEntry}
use Rattle.event_modes.specs.Options.{IsOption}

-- what a message says, in whichever mode and spelling it came:
-- its tag, its events as they are stored, and the item that an acknowledgement has to repeat
pub record Parts : Type 0 where
  pub tag : List ℕ
  pub entries : List (List ℕ)
  pub ack : Option (List ℕ)

-- what carries the events of a message
pub data Carrier : Type 0 where
  Single : (time fields : List ℕ) → Carrier  -- "Message Mode": one time and one record
  Forward : (array : List ℕ) → Carrier  -- "Forward Mode": an array of entries
  Packed : (content : List ℕ) → Carrier  -- "PackedForward Mode": a bin's or str's content

-- the places of a message, each with what stands there
pub record Frame : Type 0 where
  pub tag : List ℕ
  pub carrier : Carrier
  pub option : Option (List ℕ)

-- the elements of a message of each mode; the second element alone decides the mode
abbrev pub IsLaidOut : List ℕ → Carrier → Option (List ℕ) → List (List ℕ) → Type 0
IsLaidOut tag (Single time fields) option elements =
    (elements ≡ tag ∷ time ∷ fields ∷ option_to_list option)
    × ((items : List (List ℕ)) → IsArray items time → ⊥)
    × ((content : List ℕ) → IsText time content → ⊥)
IsLaidOut tag (Forward array) option elements = (elements ≡ tag ∷ array ∷ option_to_list option)
    × ((items : List (List ℕ)) × IsArray items array)
IsLaidOut tag (Packed content) option elements =
    (packed : List ℕ) × (elements ≡ tag ∷ packed ∷ option_to_list option) × IsText packed content

-- an array with these places
pub record IsFrame (bytes : List ℕ) (frame : Frame) : Type 0 where
  pub elements : List (List ℕ)
  pub array : IsArray elements bytes
  pub laid_out : IsLaidOut frame.tag frame.carrier frame.option elements

-- the most bytes of a tag
abbrev pub longest_tag : ℕ
longest_tag = 1024

-- a tag is a str or a bin
abbrev pub IsTag : List ℕ → List ℕ → Type 0
IsTag bytes tag = IsText bytes tag × (length tag ≤ longest_tag)

-- the events that are carried, as they are stored and in their order
abbrev pub Carries : Carrier → List (List ℕ) → Type 0
Carries (Single time fields) entries = IsTime time × IsRecord fields
    × (entries ≡ stored_entry time fields ∷ [])
Carries (Forward array) entries = (items : List (List ℕ)) × IsArray items array
    × AllZip IsEntry items entries
Carries (Packed content) entries =
    (items : List (List ℕ)) × AllByRecursion IsItemWithin items × (content ≡ concat items)
    × AllZip IsEntry items entries

-- the item is a message that says this
pub record IsMessage (bytes : List ℕ) (parts : Parts) : Type 0 where
  pub item : IsItemWithin bytes
  pub frame : Frame
  pub framed : IsFrame bytes frame
  pub tag : IsTag frame.tag parts.tag
  pub entries : Carries frame.carrier parts.entries
  pub ack : IsOption frame.option parts.ack
