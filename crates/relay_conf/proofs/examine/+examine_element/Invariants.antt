use Rattle.std.proofs.Common.{drop, map}
use Rattle.conf_text.specs.Trees.{trees}
use Rattle.conf_text.specs.Views.{tree_of}
use Rattle.relay_conf.specs.Examined.{trees_found}
use Rattle.relay_conf.proofs.Findings.{Continues}
use Rattle.relay_conf.proofs.examine.+examine_element.Given as goal

abbrev pub invariant-loop-child : goal.invariant-loop-child
invariant-loop-child g l = Continues (trees_found l.section (trees (map tree_of (drop l.child-index l.child-items)))) (trees_found l.section (trees (map tree_of l.child-items)))
