use Rattle.std.proofs.Common.{◌++◌, List, drop, map}
use Rattle.std.specs.List.{AllZip}
use Rattle.std.specs.Prelude.{codes}
use Rattle.conf_text.specs.Views.{tree_of}
use Rattle.relay_conf.specs.Meaning.{numbered}
use Rattle.relay_conf.specs.Relays.{IsMatchOf}
use Rattle.relay_conf.specs.declared.relay.MatchRule.{MatchRule}
use Rattle.relay_conf.proofs.outputs.matches_in.Given as goal

abbrev pub invariant-loop-element : goal.invariant-loop-element
invariant-loop-element g l = (rest : List (MatchRule g.row.A.Denot)) → AllZip (λ p rule. IsMatchOf (map tree_of l.elements) p.0 p.1 rule) (numbered (codes "match") l.number (map tree_of (drop l.element-index l.among))) rest
    → AllZip (λ p rule. IsMatchOf (map tree_of l.elements) p.0 p.1 rule) (numbered (codes "match") l.fn.first (map tree_of l.among)) (l.rules.items ++ rest)
