use Rattle.std.proofs.Common.{◌++◌, ◌∙◌, ap, sym}
use Rattle.std.proofs.lemmas.List.{take_all, append-nil}
use Rattle.loss_rules.specs.Everywhere.{conf_places}
use Rattle.loss_rules.specs.declared.answer.Place.TheVariants as place
use Rattle.loss_rules.proofs.PlaceLists.{one_more}
use Rattle.loss_rules.proofs.ordered.put_conf_places.Goals as goal

pub loop-line-init : goal.loop-line-init
loop-line-init g c = sym (append-nil c.args.places.now.items)

pub loop-line-preserved : goal.loop-line-preserved
loop-line-preserved g c = one_more (λ line. place.Conf c.args.relay line) c.args.places.now.items c.loop-line.places.items c.push.new.self.items c.args.lines.now c.loop-line.line-index c.loop-line-test.true c.loop-line.invariant c.in_ok-push.ensures.items

pub returns : goal.returns
returns g c = c.loop-line.invariant ∙ ap (λ lines. c.args.places.now.items ++ conf_places c.args.relay lines) (take_all c.loop-line.line-index c.args.lines.now c.loop-line-test.false)
