use Rattle.std.proofs.Common.{◌≡◌, drop}
use Rattle.relay_conf.specs.Rows.{rows_of}
use Rattle.relay_conf.specs.Checks.{among}
use Rattle.relay_conf.proofs.rows.form_in.Given as goal

abbrev pub invariant-loop-row : goal.invariant-loop-row
invariant-loop-row l = among (rows_of (drop l.row-index l.rows)) l.name ≡ among (rows_of l.rows) l.name
