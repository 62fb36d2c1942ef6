use Rattle.std.proofs.Common.{◌≤◌, length, arith}
use Rattle.std.proofs.lemmas.Grind.{common_steps}
use Rattle.relay_net.proofs.Fronts.{behind_dot}
use Rattle.relay_net.proofs.arrival.is_behind_dot.Goals as goal

pub returns : goal.returns
returns c =
    let some : 1 ≤ length c.args.text.now = grind (arith, common_steps) in
    behind_dot c.args.text.now c.args.tag.now c.is_text.result some c.if-text-ne46.false (rw c.split_at.ensures.back at c.is_text.ensures)
