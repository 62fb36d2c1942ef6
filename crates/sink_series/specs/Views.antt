-- What contracts see of a sink's files, of the receipt for entries, and of a write.
use Rattle.std.specs.Prelude.{ℕ, Bool, List}
use Rattle.sink_series.specs.Events.{Event}
use Rattle.sink_series.specs.Names.{sink_name}

-- entries that are in a sink: the sink's path, the tag, and the entries
pub record StoredView : Type 0 where
  pub path : List ℕ
  pub tag : List ℕ
  pub entries : List (List ℕ)

-- an answer of a sink: what was stored, and the moment at which it was answered
pub record Answer : Type 0 where
  pub stored : StoredView
  pub since : ℕ

-- a sink that is open: its folder, that folder when the sink was opened, its path, the number of
-- its newest file, the events that were begun in that file since it was made, the answers since
-- then, the last first, and whether a write has failed
pub record SeriesView (D : Type 0) : Type 0 where
  pub dir : D
  pub opening : D
  pub path : List ℕ
  pub number : ℕ
  pub begun : List Event
  pub stored : List Answer
  pub has_failed : Bool

-- the name of its newest file
abbrev pub newest : {D : Type 0} → SeriesView D → List ℕ
newest series = sink_name series.path series.number

-- a write that has its room: what its receipt will say, and the bytes to be written
pub record WriteView : Type 0 where
  pub stored : StoredView
  pub bytes : List ℕ
