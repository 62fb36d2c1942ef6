-- The files that were closed, each as it was then.
use Rattle.std.specs.Prelude.{List, [], ◌∷◌}
use Rattle.sink_series.specs.RotationViews.{FileView, file_of}
use Rattle.sink_series.specs.declared.closed.Link.{Link}
use Rattle.sink_series.specs.declared.closed.Link.TheVariants.{Start, Then}

-- the last file first
abbrev pub files_in : {D A : Type 0} → Link D A → List FileView
files_in Start = []
files_in (Then series before) = file_of series.value ∷ before.value
