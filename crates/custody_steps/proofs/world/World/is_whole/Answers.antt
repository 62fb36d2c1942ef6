use Rattle.std.proofs.Common.{sym, rules, tests, Contains}
use Rattle.std.proofs.lemmas.Iterator.{cases_from_all, YieldsList-from_slice}
use Rattle.relay_conf.specs.declared.output.BufferNo.{BufferNo}
use Rattle.custody_steps.proofs.Ways as ways
use Rattle.custody_steps.proofs.world.World.is_whole.Goals as goal

pub returns-in-Leaves : goal.returns-in-Leaves
returns-in-Leaves g c =
    let m = c.args.message.now in
    let d = c.args.delivery.now.delivery in
    let some = ways.some_texts c.entries.result.now m.entries c.entries.ensures (sym c.if-is_empty.ensures) in
    let leaves = rw c.in-Leaves.is at c.in_ok-way.ensures.leaves in
    let cases = cases_from_all _ _ _ (λ (leaf : BufferNo). Contains d.appended leaf.0) (λ (leaf : BufferNo). ¬ Contains d.appended leaf.0) c.all.ensures.ran (YieldsList-from_slice c.deref.result.now cc) (λ x q k. search (rules, tests)) (λ x q k. search (rules, tests)) in
    let found = rw c.deref.ensures.value at (ways.found_all c.deref.result.now d.appended c.all.result cases) in
    ways.whole_is c.args.self.now.net.now d.entrance d.tag m.entries some c.in-Leaves.leaves.items (rw (c.tag.ensures, c.entrance.ensures) at leaves) d.appended c.all.result found

pub returns-then-is_empty : goal.returns-then-is_empty
returns-then-is_empty g c =
    let d = c.args.delivery.now.delivery in
    ways.empty_is_whole c.args.self.now.net.now d.entrance d.tag c.entries.result.now c.args.message.now.entries c.entries.ensures (sym c.if-is_empty.ensures) c.args.delivery.now.delivery.appended

pub returns-in-Loop : goal.returns-in-Loop
returns-in-Loop g c =
    let d = c.args.delivery.now.delivery in
    let loop = rw c.in-Loop.is at c.in_ok-way.ensures.way in
    absurd (c.requires (ways.loop_is c.args.self.now.net.now d.entrance d.tag c.entries.result.now c.args.message.now.entries c.entries.ensures (sym c.if-is_empty.ensures) (rw (c.tag.ensures, c.entrance.ensures) at loop)))
