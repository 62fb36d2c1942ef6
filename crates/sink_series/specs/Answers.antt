-- The answers of a sink, each with the moment at which it was given.
use Rattle.std.specs.Prelude.{List, [], ◌∷◌}
use Rattle.disk_files.specs.Moments.{History}
use Rattle.sink_series.specs.Views.{Answer}
use Rattle.sink_series.specs.declared.answers.Link.{Link}
use Rattle.sink_series.specs.declared.answers.Link.TheVariants.{Start, Then}

-- the last answer first
abbrev pub answers_in : {D A : Type 0} → (D → History) → Link D A → List Answer
answers_in history Start = []
answers_in history (Then stored dir before) =
    record { stored = stored.value; since = (history dir.value).moment } ∷ before.value
