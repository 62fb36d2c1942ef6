use Rattle.std.proofs.Common.{◌<◌, ◌++◌, ◌∷◌, ◌∙◌, ap, sym, length, arith}
use Rattle.std.proofs.lemmas.List.{append-nil, take_all}
use Rattle.loss_rules.specs.declared.answer.Answer.TheVariants as answer
use Rattle.loss_rules.specs.declared.answer.Place.TheVariants as place
use Rattle.plan_answers.specs.Networks.{answer_line}
use Rattle.relayctl.specs.Checking.{no_lines}
use Rattle.relayctl.proofs.Explanations.{places_more}
use Rattle.relayctl.proofs.listing.put_places.Goals as goal

pub loop-place-init : goal.loop-place-init
loop-place-init g c = c.in_ok-put_place.ensures ∙ ap (λ f. c.args.lines.now.items ++ f) (sym (append-nil (answer_line (answer.No c.args.one.now.rule c.args.one.now.place))))

pub loop-place-preserved : goal.loop-place-preserved
loop-place-preserved g c =
    let less : c.loop-place.place-index < length c.deref-place-items.result.now = omega arith in
    places_more c.args.one.now.rule c.args.one.now.place c.deref-place-items.result.now c.loop-place.place-index (place.Plan 0) c.args.lines.now.items c.loop-place.lines.items c.put_place-in-loop-place.new.lines.items less c.loop-place.invariant c.in_ok-put_place-2.ensures

pub returns : goal.returns
returns g c = c.loop-place.invariant ∙ ap (λ ps. c.args.lines.now.items ++ no_lines c.args.one.now.rule (c.args.one.now.place ∷ ps)) (take_all c.loop-place.place-index c.deref-place-items.result.now (omega arith) ∙ c.deref-place-items.ensures.value)
