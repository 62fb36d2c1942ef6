use Rattle.std.proofs.Common.{drop, map}
use Rattle.conf_text.specs.declared.element.Element.{size-Element}
use Rattle.conf_text.specs.Trees.{trees}
use Rattle.conf_text.specs.Views.{tree_of}
use Rattle.relay_conf.proofs.Findings.{Continues}
use Rattle.relay_conf.proofs.Labelling.{trees_targets}
use Rattle.relay_conf.proofs.labels.+examine_targets.Given as goal

abbrev pub invariant-loop-child : goal.invariant-loop-child
invariant-loop-child g l = Continues (trees_targets (map tree_of l.elements) (trees (map tree_of (drop l.child-index l.child-items)))) (trees_targets (map tree_of l.elements) (trees (map tree_of l.child-items)))

abbrev pub decreases-examine_targets : goal.decreases-examine_targets
decreases-examine_targets g l = size-Element _ l.element.now
