use Rattle.std.proofs.Common.{◌∙◌, map, ap}
use Rattle.std.specs.Borrow.{Bor}
use Rattle.relay_conf.specs.declared.output.Output.{Output}
use Rattle.relay_places.specs.Outputs.{outputs_of}
use Rattle.relay_places.proofs.Pairing.{length-first_rows, rows_same}
use Rattle.relay_places.proofs.rows.OutputRows.new.Goals as goal

pub returns : goal.returns
returns g c =
    let read = λ (found : Bor (Output g.row.A.Denot)). found.now in
    let outputs = outputs_of c.args.relay.now in
    let spans = c.args.places.now.spans in
    let listed = ap (map read) c.deref.ensures.value ∙ c.in_ok-outputs.ensures in
    let rows = rows_same (map read c.deref.result.now) outputs c.all_carriers.result.now spans c.in_ok-rows.rows.items listed c.all_carriers.ensures c.in_ok-rows.ensures in
    record { rows = rows; all = length-first_rows outputs spans c.in_ok-rows.rows.items c.requires.outputs rows }
