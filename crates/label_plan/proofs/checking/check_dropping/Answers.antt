use Rattle.plan_lines.specs.Plans.{texts}
use Rattle.label_plan.proofs.Given.{asked_as_given}
use Rattle.label_plan.proofs.checking.check_dropping.Goals as goal

pub returns-in_ok-given_check-in-None-clause-checked :
    goal.returns-in_ok-given_check-in-None-clause-checked
returns-in_ok-given_check-in-None-clause-checked g c =
    let made = c.in_ok-given_check-in-None in
    asked_as_given _ (texts c.args.confs.now) c.args.drops.now c.args.net.now made.field-0.text.items made.field-0.is_labelled c.in_ok-plan.plan made.field-0.plan made.field-0.broken.items
    c.in_ok-plan.ensures.plan made.ensures.0 made.ensures.1 made.ensures.2 made.ensures.3
