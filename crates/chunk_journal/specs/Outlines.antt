-- What an outline says: a journal's live chunks, and the places of their entries in it.
use Rattle.std.specs.Prelude.{ℕ, List}
use Rattle.buffer_state.specs.State.{State}
use Rattle.chunk_journal.specs.Meaning.{IsReplayed}
use Rattle.chunk_journal.specs.Places.{Spots, ArePlaced}

-- the journal means these chunks, its whole records have so many bytes, and the chunks' entries lie
-- at these places
pub record IsOutlined (seen : List ℕ) (chunks : State) (places : Spots) (used : ℕ) : Type 0 where
  pub replayed : IsReplayed seen chunks used
  pub placed : ArePlaced seen places chunks
