-- The tables of files that a past holds.
use Rattle.std.specs.Prelude.{List, [], ◌∷◌}
use Rattle.disk_files.specs.Entry.{Entry}
use Rattle.disk_files.specs.declared.past.Link.{Link}
use Rattle.disk_files.specs.declared.past.Link.TheVariants.{Start, Then}

-- the last table first
abbrev pub tables : {A : Type 0} → Link A → List (List Entry)
tables Start = []
tables (Then files before) = files.value.items ∷ before.value
