use Rattle.std.proofs.Common.{rules, ◌≢◌, inl, inr, subst, List}
use Rattle.label_plan.specs.Checks.{IsLabelledCheck}
use Rattle.plan_lines.specs.Faults.{IsRefusal}
use Rattle.plan_lines.specs.Plans.{texts as texts_of}
use Rattle.plan_lines.specs.declared.error.PlanError.TheVariants as refusal
use Rattle.plan_lines.specs.declared.error.PlanError.{PlanError}
use Rattle.relayctl.specs.Explaining.{SaysFaults}
use Rattle.relayctl.proofs.Stopping.{is_checked}
use Rattle.relayctl.proofs.check.check_texts.Goals as goal

pub returns-in_ok-say_checked-in-Ok : goal.returns-in_ok-say_checked-in-Ok
returns-in_ok-say_checked-in-Ok g c =
    let given = c.args.text.now in
    let confs = texts_of c.args.confs.now in
    let is : IsLabelledCheck g.row.A.Denot confs c.args.drops.now given c.in-Ok.checked.is_labelled c.in-Ok.checked.text.items c.in-Ok.checked.plan c.in-Ok.checked.broken.items = search rules in
    is_checked g.row.A.Denot given confs c.args.drops.now c.in-Ok.checked.is_labelled c.in-Ok.checked.text.items c.in-Ok.checked.plan c.in-Ok.checked.broken.items is c.in_ok-say_checked-in-Ok.field-0 c.in_ok-say_checked-in-Ok.ensures

pub returns-in_ok-say_faults-in-Err-Plan : goal.returns-in_ok-say_faults-in-Err-Plan
returns-in_ok-say_faults-in-Err-Plan g c =
    let refused : IsRefusal g.row.A.Denot c.args.text.now (texts_of c.args.confs.now) c.in-Err-Plan.fault = search rules in
    let meant : c.in-Err-Plan.fault ≢ refusal.Memory = search rules in
    let says : SaysFaults c.in-Err-Plan.fault c.in_ok-further-in-Err-Plan.further.items c.in_ok-say_faults-in-Err-Plan.field-0.lines.items c.in_ok-say_faults-in-Err-Plan.field-0.status =
    subst (λ (f : List PlanError). SaysFaults c.in-Err-Plan.fault f c.in_ok-say_faults-in-Err-Plan.field-0.lines.items c.in_ok-say_faults-in-Err-Plan.field-0.status) c.deref-in-Err-Plan-2.ensures.value c.in_ok-say_faults-in-Err-Plan.ensures in
    inl (record { fault = c.in-Err-Plan.fault; refused = refused; named_fault = meant; further = c.in_ok-further-in-Err-Plan.further.items; are_left = c.in_ok-further-in-Err-Plan.ensures; says = says })

pub returns-in_ok-say_missing-in-Err-Drop : goal.returns-in_ok-say_missing-in-Err-Drop
returns-in_ok-say_missing-in-Err-Drop g c = inr (inl c.in_ok-say_missing-in-Err-Drop.ensures)
