use Rattle.std.proofs.Common.{◌≡◌, ◌++◌, filter, map, take}
use Rattle.std.specs.Borrow.{Bor}
use Rattle.relay_conf.specs.declared.output.Output.{Output}
use Rattle.relay_places.specs.Outputs.{has_buffer}
use Rattle.relay_places.proofs.outputs.put_rule.Given as goal

abbrev pub invariant-loop-output : goal.invariant-loop-output
invariant-loop-output g l =
    map (λ (found : Bor (Output g.row.A.Denot)). found.now) l.all.items
    ≡ map (λ (found : Bor (Output g.row.A.Denot)). found.now) l.fn.all.items ++ filter has_buffer (take l.output-index l.output-items)
