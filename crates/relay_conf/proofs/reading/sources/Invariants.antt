use Rattle.std.proofs.Common.{◌++◌, List, drop, map}
use Rattle.std.specs.Prelude.{filter, codes}
use Rattle.std.specs.List.{AllZip}
use Rattle.conf_text.specs.Views.{tree_of}
use Rattle.relay_conf.specs.Described.{IsSourceOf}
use Rattle.relay_conf.specs.Elements.{is_named}
use Rattle.relay_conf.specs.declared.relay.Source.{Source}
use Rattle.relay_conf.proofs.reading.sources.Given as goal

abbrev pub invariant-loop-element : goal.invariant-loop-element
invariant-loop-element g l = (rest : List (Source g.row.A.Denot)) → AllZip (λ t s. IsSourceOf (map tree_of l.elements) t s) (filter (is_named (codes "source")) (map tree_of (drop l.element-index l.elements))) rest → AllZip (λ t s. IsSourceOf (map tree_of l.elements) t s) (filter (is_named (codes "source")) (map tree_of l.elements)) (l.found.items ++ rest)
