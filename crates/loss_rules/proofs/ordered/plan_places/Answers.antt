use Rattle.std.proofs.Common.{[], ◌∙◌, ap}
use Rattle.std.proofs.lemmas.List.{take_all}
use Rattle.loss_rules.specs.Everywhere.{plan_places}
use Rattle.loss_rules.specs.declared.answer.Place.TheVariants as place
use Rattle.loss_rules.proofs.PlaceLists.{one_more}
use Rattle.loss_rules.proofs.ordered.plan_places.Goals as goal

pub loop-line-preserved : goal.loop-line-preserved
loop-line-preserved g c = one_more (λ line. place.Plan line) [] c.loop-line.places.items c.push.new.self.items c.args.lines.now c.loop-line.line-index c.loop-line-test.true c.loop-line.invariant c.in_ok-push.ensures.items

pub returns : goal.returns
returns g c = c.loop-line.invariant ∙ ap plan_places (take_all c.loop-line.line-index c.args.lines.now c.loop-line-test.false)
