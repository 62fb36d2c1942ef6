use Rattle.std.proofs.Common.{rules, ◌≡◌, ◌++◌, ◌∙◌, ap}
use Rattle.loss_rules.specs.declared.answer.Answer.TheVariants as answer
use Rattle.plan_answers.specs.Networks.{answer_line}
use Rattle.relayctl.proofs.listing.put_place.Goals as goal

pub returns : goal.returns
returns g c =
    let front = c.into_bytes-line.result.items in
    let line : front ≡ answer_line (answer.No c.args.rule c.args.place) = search rules in
    let are : c.extend_from_slice.new.self.items ≡ c.args.lines.now.items ++ front = search rules in
    are ∙ ap (λ f. c.args.lines.now.items ++ f) line
