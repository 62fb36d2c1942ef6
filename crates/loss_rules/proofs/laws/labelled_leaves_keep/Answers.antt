use Rattle.loss_rules.proofs.Keeping.{keeping_rules, each_output_keeps}
use Rattle.loss_rules.proofs.Ways.{labelled_kept}
use Rattle.loss_rules.proofs.laws.labelled_leaves_keep.Goals as goal

pub returns : goal.returns
returns g c s distinct rules every = labelled_kept s.net s.labels s.reaches distinct (keeping_rules s rules) (each_output_keeps s rules every)
