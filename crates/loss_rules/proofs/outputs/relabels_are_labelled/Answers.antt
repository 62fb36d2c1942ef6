use Rattle.std.proofs.lemmas.Result.{IfOk-weaker}
use Rattle.loss_rules.proofs.Places.{output_places, each_output}
use Rattle.loss_rules.specs.Rules.{IsLabelledRelabel}
use Rattle.loss_rules.proofs.outputs.relabels_are_labelled.Goals as goal

pub returns-clause-listed : goal.returns-clause-listed
returns-clause-listed g c = IfOk-weaker c.broken_places.result _ _ (λ places. output_places c.args.net.now (λ place scope rule output found. IsLabelledRelabel c.args.labels.now c.args.reaches.now place scope rule found) places.items) c.broken_places.ensures.listed

pub returns-clause-kept : goal.returns-clause-kept
returns-clause-kept g c = IfOk-weaker c.broken_places.result _ _ (λ places kept none. each_output c.args.net.now (λ place scope rule output other. IsLabelledRelabel c.args.labels.now c.args.reaches.now place scope rule other) (kept none)) c.broken_places.ensures.kept
