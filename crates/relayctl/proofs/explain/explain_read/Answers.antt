use Rattle.std.proofs.Common.{rules, ◌≡◌, ◌≢◌, ap, ◌∙◌, inl, inr}
use Rattle.label_plan.specs.Plans.{IsDroppedPlanOf}
use Rattle.program_text.specs.Plans.{AreRead}
use Rattle.plan_lines.specs.Faults.{IsRefusal}
use Rattle.plan_lines.specs.Forms.{confs_named}
use Rattle.plan_lines.specs.Plans.{texts as texts_of}
use Rattle.plan_lines.specs.declared.error.PlanError.TheVariants as refusal
use Rattle.program_text.proofs.PlanSteps.{bytes, are_read}
use Rattle.relayctl.specs.Dropping.{IsMissing}
use Rattle.relayctl.proofs.explain.explain_read.Goals as goal

pub returns-in-Ok : goal.returns-in-Ok
returns-in-Ok g c =
    let net = g.R.CountedRead.remaining c.args.net.now in
    let named = g.O.Open.text_of c.args.files.now in
    let text = c.in_ok-text.text.items in
    let confs = texts_of c.in_ok-confs.confs.items in
    let names : bytes c.deref-2.result.now ≡ confs_named text = ap bytes c.deref-2.ensures.value ∙ c.in_ok-names.ensures.names ∙ ap confs_named c.deref.ensures.value in
    let read : AreRead net named text confs = are_read net named text c.deref-2.result.now confs c.in_ok-text.ensures.whole names c.in_ok-confs.ensures.texts in
    let is : IsDroppedPlanOf text confs c.args.drops.now c.in-Ok.plan = search rules in
    let said = c.in_ok-say_plan-in-Ok.ensures in
    inl (record { text = text; confs = confs; read = read; plan = c.in-Ok.plan; plan_is = is; found = said.0; answer_is = said.1; says = said.2 })

pub returns-in-Err-Plan : goal.returns-in-Err-Plan
returns-in-Err-Plan g c =
    let net = g.R.CountedRead.remaining c.args.net.now in
    let named = g.O.Open.text_of c.args.files.now in
    let text = c.in_ok-text.text.items in
    let confs = texts_of c.in_ok-confs.confs.items in
    let names : bytes c.deref-2.result.now ≡ confs_named text = ap bytes c.deref-2.ensures.value ∙ c.in_ok-names.ensures.names ∙ ap confs_named c.deref.ensures.value in
    let read : AreRead net named text confs = are_read net named text c.deref-2.result.now confs c.in_ok-text.ensures.whole names c.in_ok-confs.ensures.texts in
    let said : IsRefusal g.row.A.Denot text confs c.in-Err-Plan.fault = search rules in
    let meant : c.in-Err-Plan.fault ≢ refusal.Memory = search rules in
    inr (inl (record {
      fault = c.in-Err-Plan.fault;
      refused = record { text = text; confs = confs; read = read; refused = said };
      named_fault = meant;
      says = c.in_ok-say_fault-in-Err-Plan.ensures;
    }))

pub returns : goal.returns
returns g c =
    let net = g.R.CountedRead.remaining c.args.net.now in
    let named = g.O.Open.text_of c.args.files.now in
    let text = c.in_ok-text.text.items in
    let confs = texts_of c.in_ok-confs.confs.items in
    let names : bytes c.deref-2.result.now ≡ confs_named text = ap bytes c.deref-2.ensures.value ∙ c.in_ok-names.ensures.names ∙ ap confs_named c.deref.ensures.value in
    let read : AreRead net named text confs = are_read net named text c.deref-2.result.now confs c.in_ok-text.ensures.whole names c.in_ok-confs.ensures.texts in
    let said : IsMissing g.row.A.Denot text confs c.args.drops.now c.in_ok-say_missing-in-Err-Drop.field-0.lines.items c.in_ok-say_missing-in-Err-Drop.field-0.status = search rules in
    inr (inr (record { text = text; confs = confs; read = read; missing = said }))
