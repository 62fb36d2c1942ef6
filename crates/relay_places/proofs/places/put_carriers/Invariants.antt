use Rattle.std.proofs.Common.{◌≡◌, ◌++◌, length, map, take}
use Rattle.std.specs.Borrow.{Bor}
use Rattle.std.specs.List.{flat_map}
use Rattle.std.specs.Prelude.{string_bytes}
use Rattle.relay_conf.specs.declared.output.Output.{Output}
use Rattle.relay_places.specs.Names.{carrier_names}
use Rattle.relay_places.specs.Places.{spans_from}
use Rattle.relay_places.proofs.places.put_carriers.Given as goal

abbrev pub invariant-loop-output : goal.invariant-loop-output
invariant-loop-output g l = record {
  names_are : map string_bytes l.names.items ≡ map string_bytes l.fn.names.items ++ flat_map (carrier_names l.folder) (map (λ (found : Bor (Output g.row.A.Denot)). found.now) (take l.output-index l.outputs));
  spans_are : l.spans.items ≡ spans_from (length l.fn.names.items) (map (λ (found : Bor (Output g.row.A.Denot)). found.now) (take l.output-index l.outputs));
}
