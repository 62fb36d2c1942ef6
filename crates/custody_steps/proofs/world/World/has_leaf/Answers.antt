use Rattle.std.proofs.Common.{sym}
use Rattle.custody_steps.proofs.Ways as ways
use Rattle.custody_steps.proofs.world.World.has_leaf.Goals as goal

pub returns-in-Leaves : goal.returns-in-Leaves
returns-in-Leaves g c =
    let m = c.args.message.now in
    let d = c.args.delivery.now.delivery in
    let some = ways.some_texts c.entries.result.now m.entries c.entries.ensures (sym c.if-is_empty.ensures) in
    let leaves = rw c.in-Leaves.is at c.in_ok-way.ensures.leaves in
    let found = rw c.deref.ensures.value at (ways.found_number c.deref.result.now c.args.buffer c.contains.result c.contains.ensures.cases) in
    ways.leaf_is c.args.self.now.net.now d.entrance d.tag m.entries some c.in-Leaves.leaves.items (rw (c.tag.ensures, c.entrance.ensures) at leaves) c.args.buffer c.contains.result found

pub returns-then-is_empty : goal.returns-then-is_empty
returns-then-is_empty g c =
    let d = c.args.delivery.now.delivery in
    ways.empty_has_no_leaf c.args.self.now.net.now d.entrance d.tag c.entries.result.now c.args.message.now.entries c.entries.ensures (sym c.if-is_empty.ensures) c.args.buffer

pub returns-in-Loop : goal.returns-in-Loop
returns-in-Loop g c =
    let d = c.args.delivery.now.delivery in
    let loop = rw c.in-Loop.is at c.in_ok-way.ensures.way in
    absurd (c.requires (ways.loop_is c.args.self.now.net.now d.entrance d.tag c.entries.result.now c.args.message.now.entries c.entries.ensures (sym c.if-is_empty.ensures) (rw (c.tag.ensures, c.entrance.ensures) at loop)))
