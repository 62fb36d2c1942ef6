use Rattle.std.proofs.Common.{rules, ◌≡◌, ◌++◌}
use Rattle.loss_rules.specs.Breaks.{IsAnswer}
use Rattle.loss_rules.specs.declared.answer.Answer.TheVariants as answer
use Rattle.plan_answers.specs.Networks.{answer_line}
use Rattle.relayctl.specs.Explaining.{last_line}
use Rattle.relayctl.proofs.Explanations.{says_no}
use Rattle.relayctl.proofs.explain.say_plan.Goals as goal

pub returns : goal.returns
returns g c =
    let found = answer.No c.in-No.rule c.in-No.place in
    let front = c.into_bytes-lines.result.items in
    let text = c.in_ok-said.said.lines.items in
    let is : IsAnswer c.args.plan.now found = search rules in
    let line : front ≡ answer_line found = search rules in
    let are : c.extend_from_slice-2.new.self.items ≡ (front ++ text) ++ last_line c.in_ok-said.said.has_loss = search rules in
    (found, is, says_no c.args.drops.now c.args.plan.now c.in-No.rule c.in-No.place front text c.extend_from_slice-2.new.self.items c.in_ok-said.said.has_loss line c.in_ok-said.ensures are)
