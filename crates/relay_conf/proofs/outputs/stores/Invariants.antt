use Rattle.std.proofs.Common.{◌++◌, List, drop, map}
use Rattle.std.specs.Prelude.{codes}
use Rattle.std.specs.List.{AllZip}
use Rattle.conf_text.specs.Views.{tree_of}
use Rattle.relay_conf.specs.Described.{IsOutputOf}
use Rattle.relay_conf.specs.Meaning.{numbered}
use Rattle.relay_conf.specs.declared.output.Output.{Output}
use Rattle.relay_conf.proofs.outputs.stores.Given as goal

abbrev pub invariant-loop-child : goal.invariant-loop-child
invariant-loop-child g l = (rest : List (Output g.row.A.Denot)) → AllZip (λ p o. IsOutputOf (map tree_of l.elements) p.0 p.1 o) (numbered (codes "store") l.number (map tree_of (drop l.child-index l.children))) rest → AllZip (λ p o. IsOutputOf (map tree_of l.elements) p.0 p.1 o) (numbered (codes "store") l.fn.first (map tree_of l.children)) (l.outputs.items ++ rest)
