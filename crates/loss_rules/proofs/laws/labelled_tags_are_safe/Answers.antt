use Rattle.loss_rules.proofs.Keeping.{keeping_rules}
use Rattle.loss_rules.proofs.Ways.{labelled_safe}
use Rattle.loss_rules.proofs.laws.labelled_tags_are_safe.Goals as goal

pub returns : goal.returns
returns g c s distinct rules = labelled_safe s.net s.labels s.reaches distinct (keeping_rules s rules)
