-- The names that chunks are sent under: 16 bytes as text (Forward Protocol Specification v1,
-- "Option", chunk).
use Rattle.std.specs.Prelude.{ℕ, ◌<◌, ◌^◌, List, ◌++◌}
use Rattle.std.specs.Int.{w32, w64, to_be_bytes}
use Rattle.base64.specs.Engines.{standard}
use Rattle.base64.specs.GeneralPurpose.{encode_of}
use Rattle.event_modes.specs.declared.chunk_id.ChunkId.{ChunkId}

-- each number is one of its type
pub record HasSizes (id : ChunkId) : Type 0 where
  pub relay : id.relay < 2 ^ 32
  pub buffer : id.buffer < 2 ^ 32
  pub serial : id.serial < 2 ^ 64

-- the sixteen bytes: relay, buffer and serial, the highest byte first
abbrev pub chunk_bytes : ChunkId → List ℕ
chunk_bytes id = to_be_bytes w32 id.relay ++ to_be_bytes w32 id.buffer ++ to_be_bytes w64 id.serial

-- their text: padded base64 of the standard alphabet
unfoldable pub chunk_text : ChunkId → List ℕ
chunk_text id = encode_of standard (chunk_bytes id)
