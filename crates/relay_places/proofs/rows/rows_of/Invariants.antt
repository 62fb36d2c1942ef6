use Rattle.std.proofs.Common.{◌≡◌, map, take}
use Rattle.std.specs.Borrow.{Bor}
use Rattle.relay_conf.specs.declared.output.Output.{Output}
use Rattle.relay_places.specs.Rows.{first_rows}
use Rattle.relay_places.proofs.rows.rows_of.Given as goal

abbrev pub invariant-loop-n : goal.invariant-loop-n
invariant-loop-n g l =
    l.rows.items ≡ first_rows (take l.n (map (λ (found : Bor (Output g.row.A.Denot)). found.now) l.outputs)) (take l.n l.spans)
