use Rattle.std.proofs.Common.{◌≡◌, drop, sym, ◌∙◌}
use Rattle.std.proofs.lemmas.Result.{on_ok_weaker}
use Rattle.relay_net.proofs.Growing.{grows_as, grows_never}
use Rattle.relay_net.proofs.Sending.{by_leaf, of_leaf}
use Rattle.relay_net.proofs.following.follow.Goals as goal

pub returns-in-Loop : goal.returns-in-Loop
returns-in-Loop g c =
    let loop = rw (c.in-Ok.ensures.tag, c.split_at.ensures.back) at (rw c.in-Loop.is at c.in_ok-way.ensures.way) in
    grows_never _ c.args.found.now.items (λ a n. n.comes.ends loop)

pub returns : goal.returns
returns g c =
    let way = rw (c.in-Ok.ensures.tag, c.split_at.ensures.back) at (rw c.in-Leaves.is at c.in_ok-way.ensures.way) in
    let leaves = rw (c.in-Ok.ensures.tag, c.split_at.ensures.back) at (rw c.in-Leaves.is at c.in_ok-way.ensures.leaves) in
    on_ok_weaker c.follow_buffers.result (grows_as _ _ _ _
    (by_leaf c.args.net.now c.args.wanted.now c.args.here c.in-Leaves.leaves.items way.0 leaves)
    (of_leaf c.args.net.now c.args.wanted.now c.args.here c.in-Leaves.leaves.items way.0 leaves)) (rw (c.deref.ensures.value, c.split_at.ensures.back) at c.follow_buffers.ensures)
