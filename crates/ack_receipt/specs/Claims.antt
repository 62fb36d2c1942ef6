-- What contracts see of a claim.
use Rattle.std.specs.Prelude.{ℕ, ◌≡◌, List, length, IsSomeAnd}
use Rattle.event_modes.specs.declared.chunk_id.ChunkId.{ChunkId}
use Rattle.book_audit.specs.declared.line.Leaf.{Leaf}
use Rattle.buffer_state.specs.State.{State, chunk_at}

-- a claimed chunk: its buffer, its serial, its tag, and how many entries it has
pub record Claimed : Type 0 where
  pub leaf : Leaf
  pub serial : ℕ
  pub tag : List ℕ
  pub count : ℕ

-- the name that the chunk is sent under
abbrev pub id_of : Claimed → ChunkId
id_of claim = record { relay = claim.leaf.relay; buffer = claim.leaf.buffer; serial = claim.serial }

-- the claim has the tag of the live chunk of its serial, and counts its entries
abbrev pub IsCopied : Claimed → State → Type 0
IsCopied claim state = IsSomeAnd (chunk_at state claim.serial)
    (λ chunk. (claim.tag ≡ chunk.tag) × (claim.count ≡ length chunk.entries))
