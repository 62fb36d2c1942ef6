-- Tables of parameters in the code.
use Rattle.std.specs.Prelude.{ℕ, List, map}
use Rattle.relay_conf.specs.declared.rows.Row.{Row}
use Rattle.relay_conf.specs.Forms.{value_fault}
use Rattle.relay_conf.specs.Checks.{Check}

-- the rows of a table: of each parameter, its name and what is wrong with its values
abbrev pub rows_of : List Row → List (List ℕ × Check)
rows_of rows = map (λ row. (row.name.now, value_fault row.form)) rows
