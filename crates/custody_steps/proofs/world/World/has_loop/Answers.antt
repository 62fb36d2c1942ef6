use Rattle.std.proofs.Common.{sym}
use Rattle.custody_steps.proofs.Ways as ways
use Rattle.custody_steps.proofs.world.World.has_loop.Goals as goal
use Rattle.custody_steps.proofs.world.World.has_loop.Goals.{in-Loop, in-Leaves}

pub returns-then-is_empty : goal.returns-then-is_empty
returns-then-is_empty g c = ways.empty_is_no_loop c.args.self.now.net.now c.args.at c.args.tag.now c.entries.result.now c.args.message.now.entries c.entries.ensures (sym c.if-is_empty.ensures)

pub returns : goal.returns
returns g c =
    let net = c.args.self.now.net.now in
    let entries = c.args.message.now.entries in
    elim c.match-branch-2.branch [
      | in-Loop w ↦ rw w.result-is (ways.loop_too net c.args.at c.args.tag.now c.entries.result.now entries c.entries.ensures (sym c.if-is_empty.ensures) (rw w.in-Loop.is at c.in_ok-way.ensures.way))
      | in-Leaves w ↦ let way = rw w.in-Leaves.is at c.in_ok-way.ensures.way in rw w.result-is (ways.no_loop_too net c.args.at c.args.tag.now c.entries.result.now entries c.entries.ensures way.0)
    ]
