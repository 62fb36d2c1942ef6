use Rattle.tag_pattern.proofs.SlotCuts.{group_found, part_body, empty_body}
use Rattle.tag_pattern.proofs.slots.first_body.Goals as goal

pub returns-in-None : goal.returns-in-None
returns-in-None c = empty_body c.args.text.now c.in-None.ensures.cases

pub returns-then-first-eq123 : goal.returns-then-first-eq123
returns-then-first-eq123 c = group_found c.group.result c.args.text.now _ _ c.in-Some.ensures.cases.0 c.if-first-eq123.true c.group.ensures

pub returns-else-first-eq123 : goal.returns-else-first-eq123
returns-else-first-eq123 c =
    let is = c.in-Some.ensures.cases.0 in
    part_body c.args.text.now _ _ c.cut.ensures (λ rest e. c.if-first-eq123.false cc)
