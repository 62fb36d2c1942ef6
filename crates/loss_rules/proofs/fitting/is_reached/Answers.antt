use Rattle.std.proofs.Common.{length}
use Rattle.loss_rules.specs.Labels.{IsReachOf}
use Rattle.loss_rules.proofs.BySite.{both, not_empty, some_found}
use Rattle.loss_rules.proofs.fitting.is_reached.Goals as goal

pub returns : goal.returns
returns g c = both (not_empty (length c.at.result.now) c.is_empty.result c.is_empty.ensures) (some_found (λ r. r.now) c.at.result.now (IsReachOf c.args.at.place c.args.at.scope c.args.at.rule) (λ reach. reach.patterns.items) c.args.reaches.now c.at.ensures)
