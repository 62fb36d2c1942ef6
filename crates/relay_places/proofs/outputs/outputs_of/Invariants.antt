use Rattle.std.proofs.Common.{◌≡◌, map, take}
use Rattle.std.specs.Borrow.{Bor}
use Rattle.std.specs.List.{flat_map}
use Rattle.relay_conf.specs.declared.output.Output.{Output}
use Rattle.relay_places.specs.Outputs.{of_scope}
use Rattle.relay_places.proofs.outputs.outputs_of.Given as goal

abbrev pub invariant-loop-scope : goal.invariant-loop-scope
invariant-loop-scope g l = map (λ (found : Bor (Output g.row.A.Denot)). found.now) l.all.items ≡ flat_map of_scope (take l.scope-index l.scope-items)
