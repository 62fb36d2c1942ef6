use Rattle.std.proofs.Common.{◌++◌, List, drop, map}
use Rattle.std.specs.List.{AllZip}
use Rattle.std.specs.Prelude.{codes}
use Rattle.conf_text.specs.Views.{tree_of}
use Rattle.relay_conf.specs.Meaning.{numbered}
use Rattle.relay_conf.specs.Relays.{IsScopeOf}
use Rattle.relay_conf.specs.declared.relay.Scope.{Scope}
use Rattle.relay_conf.proofs.outputs.label_scopes.Given as goal

abbrev pub invariant-loop-element : goal.invariant-loop-element
invariant-loop-element g l = (rest : List (Scope g.row.A.Denot)) → AllZip (λ p scope. IsScopeOf (map tree_of l.elements) p.0 p.1 scope) (numbered (codes "label") l.number (map tree_of (drop l.element-index l.elements))) rest
    → AllZip (λ p scope. IsScopeOf (map tree_of l.elements) p.0 p.1 scope) (numbered (codes "label") 0 (map tree_of l.elements)) (l.scopes.items ++ rest)
