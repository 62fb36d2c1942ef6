use Rattle.std.proofs.Common.{get_or, sym, ◌∙◌, arith}
use Rattle.std.proofs.lemmas.Option.{slice_get-get_or}
use Rattle.std.proofs.lemmas.Result.{IfOk-weaker}
use Rattle.loss_rules.proofs.Lines.{one_more, all_of, one_adds, lines_are, kept_are, no_plan_lines}
use Rattle.loss_rules.proofs.Plans.{client_adds}
use Rattle.loss_rules.specs.Everywhere.{BreaksAtClient}
use Rattle.loss_rules.specs.Rules.{IsLabelledClient}
use Rattle.loss_rules.proofs.plan.clients_are_labelled.Goals as goal

pub loop-number-preserved : goal.loop-number-preserved
loop-number-preserved g c = one_more _ _ c.args.client_lines.now c.loop-number.number (get_or c.args.client_lines.now c.loop-number.number 0) _ _ _ (slice_get-get_or c.args.client_lines.now c.loop-number.number 0 (omega arith)) c.loop-number.invariant (rw c.in_ok-add_unless.ensures (one_adds _ c.is_labelled.result (get_or c.args.client_lines.now c.loop-number.number 0) _ c.is_labelled.ensures))

pub returns-clause-listed : goal.returns-clause-listed
returns-clause-listed g c =
    let added = client_adds c.args.net.now c.args.client_lines.now (IsLabelledClient c.args.net.now c.args.labels.now) c.requires _ _ (all_of _ _ c.args.client_lines.now c.loop-number.number _ _ (omega arith) c.loop-number.invariant) in
    IfOk-weaker c.plan_places.result _ _ (λ places is. (_, lines_are (BreaksAtClient c.args.net.now c.args.client_lines.now (IsLabelledClient c.args.net.now c.args.labels.now)) _ _ added.lines c.put_in_order.ensures.rise c.put_in_order.ensures.same, is)) (rw c.deref.ensures.value at c.plan_places.ensures)

pub returns-clause-kept : goal.returns-clause-kept
returns-clause-kept g c =
    let added = client_adds c.args.net.now c.args.client_lines.now (IsLabelledClient c.args.net.now c.args.labels.now) c.requires _ _ (all_of _ _ c.args.client_lines.now c.loop-number.number _ _ (omega arith) c.loop-number.invariant) in
    let are = lines_are (BreaksAtClient c.args.net.now c.args.client_lines.now (IsLabelledClient c.args.net.now c.args.labels.now)) _ _ added.lines c.put_in_order.ensures.rise c.put_in_order.ensures.same in
    IfOk-weaker c.plan_places.result _ _ (λ places is none. kept_are _ _ _ added.decided are (no_plan_lines _ (sym is ∙ none))) (rw c.deref.ensures.value at c.plan_places.ensures)
