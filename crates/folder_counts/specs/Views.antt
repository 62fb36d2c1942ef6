-- What contracts see of buffers, sinks and outputs, without where their names lie in memory.
use Rattle.std.specs.Prelude.{ℕ, List, Option}
use Rattle.output_state.specs.State.{StateView}
use Rattle.folder_counts.specs.declared.buffers.Found.{Found}
use Rattle.folder_counts.specs.declared.counts.SinkCounts.{SinkCounts}
use Rattle.folder_counts.specs.declared.instant.Instant.{Instant}

-- a buffer: its path, and of one generation of its journal the file, the number, and what is found
-- in it
pub record BufferView : Type 0 where
  pub path : List ℕ
  pub file : List ℕ
  pub number : ℕ
  pub found : Found

-- a sink: its path, its newest file with its number, and what its files count to
pub record SinkView : Type 0 where
  pub path : List ℕ
  pub newest : List ℕ
  pub number : ℕ
  pub counts : SinkCounts

-- the buffers and the sinks of a folder
pub record FolderView : Type 0 where
  pub buffers : List BufferView
  pub sinks : List SinkView

-- an output: what its relay says of it, and when the last chunk was delivered there, if one was
pub record OutputView : Type 0 where
  pub state : StateView
  pub last : Option Instant
