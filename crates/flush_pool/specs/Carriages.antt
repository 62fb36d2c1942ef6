-- What a sink's courier gives for a chunk.
use Rattle.std.specs.Prelude.{ℕ, ◌≡◌, List, length}
use Rattle.sink_series.specs.Views.{StoredView}
use Rattle.ack_receipt.specs.Claims.{Claimed, id_of}
use Rattle.ack_receipt.specs.Evidences.{Shows, StoredAs}

-- a sink as it was opened: its folder as it was then, and its path
pub record Opened (S : Type 0) : Type 0 where
  pub folder : S
  pub path : List ℕ

-- the evidence names this chunk, and shows entries that are in a sink: under the chunk's tag, and
-- as many as the chunk has
abbrev pub IsStoredFor : Claimed → Shows → Type 0
IsStoredFor claim shown = (stored : StoredView) × (shown ≡ StoredAs (id_of claim) stored)
    × (stored.tag ≡ claim.tag) × (length stored.entries ≡ claim.count)
