-- A message as it is written (Forward Protocol Specification v1, "PackedForward Mode", "Option").
use Rattle.std.specs.Prelude.{ℕ, ◌≡◌, List, ◌++◌, length, Option, Some, None, option_map, codes}
use Rattle.std.specs.Borrow.{Bor}
use Rattle.event_modes.specs.declared.chunk_id.ChunkId.{ChunkId}
use Rattle.event_modes.specs.ChunkIds.{chunk_text}
use Rattle.event_modes.specs.Message.{Parts}
use Rattle.std.specs.List.{concat}
use Rattle.msgpack_bytes.specs.Spelling.{uint_of, str_of, bin_of, array_header_of, map_header_of}

-- the option: how many entries there are, and the chunk that is to be acknowledged, if one is
abbrev pub option_of : ℕ → Option (List ℕ) → List ℕ
option_of count None = map_header_of 1 ++ (str_of (codes "size") ++ uint_of count)
option_of count (Some chunk) = map_header_of 2
    ++ (str_of (codes "size") ++ (uint_of count ++ (str_of (codes "chunk") ++ str_of chunk)))

-- the tag as a str, the entries as a bin, and the option
abbrev pub packed_message : List ℕ → List (List ℕ) → Option (List ℕ) → List ℕ
packed_message tag entries chunk = array_header_of 3
    ++ (str_of tag ++ (bin_of (concat entries) ++ option_of (length entries) chunk))

-- what it says: the chunk's text is to be repeated as it is spelled
abbrev pub said : List ℕ → List (List ℕ) → Option (List ℕ) → Parts
said tag entries chunk = record { tag = tag; entries = entries; ack = option_map str_of chunk }

-- the text of a chunk's name that may be there
abbrev pub chunk_of : Option (Bor ChunkId) → Option (List ℕ)
chunk_of chunk = option_map (λ id. chunk_text id.now) chunk

-- nothing of the old list is gone
abbrev pub Extends : List ℕ → List ℕ → Type 0
Extends old new = (tail : List ℕ) × (new ≡ old ++ tail)
