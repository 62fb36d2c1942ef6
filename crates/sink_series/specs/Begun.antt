-- The writes that were begun in a file, each as its events.
use Rattle.std.specs.Prelude.{List, [], ◌∷◌}
use Rattle.sink_series.specs.Events.{Event, under}
use Rattle.sink_series.specs.declared.begun.Link.{Link}
use Rattle.sink_series.specs.declared.begun.Link.TheVariants.{Start, Then}

-- the last write first
abbrev pub writes_in : {A : Type 0} → Link A → List (List Event)
writes_in Start = []
writes_in (Then write before) =
    under write.value.stored.tag write.value.stored.entries ∷ before.value
