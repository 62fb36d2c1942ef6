-- The names of a sink's files.
use Rattle.std.specs.Prelude.{ℕ, List, ◌∷◌, ◌++◌, codes}
use Rattle.numbered_files.specs.Names.{ten_digits}

-- PATH.NNNNNNNNNN.sink
abbrev pub sink_name : List ℕ → ℕ → List ℕ
sink_name path number = path ++ 46 ∷ (ten_digits number ++ 46 ∷ codes "sink")

-- the number of the last file that a sink can have
abbrev pub last_number : ℕ
last_number = 4294967295
