use Rattle.std.proofs.Common.{refl, sym, ◌∙◌, arith}
use Rattle.std.proofs.lemmas.Option.{slice_get_read}
use Rattle.std.proofs.lemmas.Result.{IfOk-weaker}
use Rattle.loss_rules.proofs.Lines.{one_more, all_of, one_adds, lines_are, kept_are, no_plan_lines}
use Rattle.loss_rules.proofs.Plans.{label_adds}
use Rattle.loss_rules.specs.Everywhere.{BreaksAtLabel}
use Rattle.loss_rules.specs.Rules.{IsCoveredLabel}
use Rattle.loss_rules.proofs.plan.reaches_cover.Goals as goal

pub loop-label-preserved : goal.loop-label-preserved
loop-label-preserved g c = one_more _ _ c.args.labels.now c.loop-label.label-index c.label-item.result _ _ _ (slice_get_read c.args.labels.now _ c.loop-label.label-index c.label-item.result refl (omega arith) c.label-item.is) c.loop-label.invariant (rw c.in_ok-add_unless.ensures (one_adds _ c.all_covered.result c.label-item.result.line _ c.all_covered.ensures))

pub returns-clause-listed : goal.returns-clause-listed
returns-clause-listed g c =
    let added = label_adds c.args.labels.now (IsCoveredLabel c.args.net.now c.args.reaches.now) _ _ (all_of _ _ c.args.labels.now c.loop-label.label-index _ _ (omega arith) c.loop-label.invariant) in
    IfOk-weaker c.plan_places.result _ _ (λ places is. (_, lines_are (BreaksAtLabel c.args.labels.now (IsCoveredLabel c.args.net.now c.args.reaches.now)) _ _ added.lines c.put_in_order.ensures.rise c.put_in_order.ensures.same, is)) (rw c.deref.ensures.value at c.plan_places.ensures)

pub returns-clause-kept : goal.returns-clause-kept
returns-clause-kept g c =
    let added = label_adds c.args.labels.now (IsCoveredLabel c.args.net.now c.args.reaches.now) _ _ (all_of _ _ c.args.labels.now c.loop-label.label-index _ _ (omega arith) c.loop-label.invariant) in
    let are = lines_are (BreaksAtLabel c.args.labels.now (IsCoveredLabel c.args.net.now c.args.reaches.now)) _ _ added.lines c.put_in_order.ensures.rise c.put_in_order.ensures.same in
    IfOk-weaker c.plan_places.result _ _ (λ places is none. kept_are _ _ _ added.decided are (no_plan_lines _ (sym is ∙ none))) (rw c.deref.ensures.value at c.plan_places.ensures)
