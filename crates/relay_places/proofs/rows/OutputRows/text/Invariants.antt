use Rattle.std.proofs.Common.{◌≡◌, take}
use Rattle.relay_places.specs.Rows.{rows_text}
use Rattle.relay_places.proofs.rows.OutputRows.text.Given as goal

abbrev pub invariant-loop-row : goal.invariant-loop-row
invariant-loop-row g l = l.text.items ≡ rows_text (take l.row-index l.row-items)
