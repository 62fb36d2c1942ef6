use Rattle.std.proofs.Common.{◌≡◌, ◌++◌, map, take}
use Rattle.std.specs.Borrow.{Bor}
use Rattle.std.specs.List.{flat_map}
use Rattle.relay_conf.specs.declared.output.Output.{Output}
use Rattle.relay_places.specs.Outputs.{of_rule}
use Rattle.relay_places.proofs.outputs.put_scope.Given as goal

abbrev pub invariant-loop-rule : goal.invariant-loop-rule
invariant-loop-rule g l =
    map (λ (found : Bor (Output g.row.A.Denot)). found.now) l.all.items
    ≡ map (λ (found : Bor (Output g.row.A.Denot)). found.now) l.fn.all.items ++ flat_map of_rule (take l.rule-index l.rule-items)
