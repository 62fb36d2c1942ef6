use Rattle.std.proofs.Common.{drop, map}
use Rattle.std.specs.List.{flat_map}
use Rattle.conf_text.specs.Views.{setting, tree_of}
use Rattle.relay_conf.specs.Labels.{target_found}
use Rattle.relay_conf.proofs.Findings.{Continues}
use Rattle.relay_conf.proofs.labels.examine_pairs.Given as goal

abbrev pub invariant-loop-pair : goal.invariant-loop-pair
invariant-loop-pair g l = Continues (flat_map (target_found (map tree_of l.elements)) (map setting (drop l.pair-index l.pairs))) (flat_map (target_found (map tree_of l.elements)) (map setting l.pairs))
