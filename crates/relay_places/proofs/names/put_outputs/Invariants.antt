use Rattle.std.proofs.Common.{◌≡◌, ◌++◌, map, take}
use Rattle.std.specs.Borrow.{Bor}
use Rattle.std.specs.Prelude.{string_bytes}
use Rattle.relay_conf.specs.declared.output.Output.{Output}
use Rattle.relay_places.specs.Names.{output_name}
use Rattle.relay_places.proofs.names.put_outputs.Given as goal

abbrev pub invariant-loop-output : goal.invariant-loop-output
invariant-loop-output g l =
    map string_bytes l.names.items
    ≡ map string_bytes l.fn.names.items ++ map output_name (map (λ (found : Bor (Output g.row.A.Denot)). found.now) (take l.output-index l.outputs))
