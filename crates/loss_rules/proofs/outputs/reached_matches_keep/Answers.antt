use Rattle.std.proofs.lemmas.Result.{IfOk-weaker}
use Rattle.loss_rules.proofs.Places.{match_places}
use Rattle.loss_rules.specs.Labels.{IsReached}
use Rattle.loss_rules.specs.Rules.{DoesDuty}
use Rattle.loss_rules.proofs.outputs.reached_matches_keep.Goals as goal

pub returns-clause-listed : goal.returns-clause-listed
returns-clause-listed g c = IfOk-weaker c.broken_places.result _ _ (λ places. match_places c.args.net.now (λ place scope rule found. IsReached c.args.reaches.now place scope rule → DoesDuty c.args.duty found) places.items) c.broken_places.ensures.listed
