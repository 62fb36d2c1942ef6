use Rattle.std.proofs.Common.{drop, map}
use Rattle.conf_text.specs.Views.{tree_of}
use Rattle.relay_conf.specs.Labels.{labels_from}
use Rattle.relay_conf.proofs.Findings.{Continues}
use Rattle.relay_conf.proofs.labels.examine_labels.Given as goal

abbrev pub invariant-loop-i : goal.invariant-loop-i
invariant-loop-i g l = Continues (labels_from (map tree_of l.elements) l.i (map tree_of (drop l.i l.elements))) (labels_from (map tree_of l.elements) 0 (map tree_of l.elements))
