use Rattle.std.proofs.lemmas.Result.{IfOk-weaker}
use Rattle.loss_rules.proofs.SharedPaths.{firsts_are_distinct}
use Rattle.loss_rules.proofs.Places.{output_places, each_output}
use Rattle.loss_rules.specs.Breaks.{IsFirstOfPath}
use Rattle.loss_rules.proofs.paths.paths_are_distinct.Goals as goal

pub returns-clause-listed : goal.returns-clause-listed
returns-clause-listed g c = IfOk-weaker c.broken_places.result _ _ (λ places. output_places c.args.net.now (λ place scope rule output found. IsFirstOfPath c.args.net.now place scope rule output found) places.items) c.broken_places.ensures.listed

pub returns-clause-kept : goal.returns-clause-kept
returns-clause-kept g c = IfOk-weaker c.broken_places.result _ _ (λ places kept none. firsts_are_distinct c.args.net.now (each_output c.args.net.now (λ place scope rule output other. IsFirstOfPath c.args.net.now place scope rule output other) (kept none))) c.broken_places.ensures.kept
