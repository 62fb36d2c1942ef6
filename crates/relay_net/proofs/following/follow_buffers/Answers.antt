use Rattle.std.proofs.Common.{arith}
use Rattle.std.proofs.lemmas.List.{take_all, take_more}
use Rattle.relay_net.specs.Arrivals.{Grows, Through, IsSentOn}
use Rattle.relay_net.proofs.Growing.{grows_none, grows_more}
use Rattle.relay_net.proofs.following.follow_buffers.Goals as goal

pub loop-leaf-init : goal.loop-leaf-init
loop-leaf-init g c = grows_none (λ leaf. IsSentOn c.args.net.now c.args.wanted.now c.args.place leaf.0 c.args.tag.now) c.args.found.now.items

pub loop-leaf-preserved : goal.loop-leaf-preserved
loop-leaf-preserved g c =
    let more = take_more c.args.leaves.now c.loop-leaf.leaf-index _ (omega arith) in
    rw more (grows_more (λ leaf. IsSentOn c.args.net.now c.args.wanted.now c.args.place leaf.0 c.args.tag.now) _ _ _ _ _ c.loop-leaf.invariant c.in_ok-follow_buffer.ensures)

pub returns : goal.returns
returns g c = rw (take_all c.loop-leaf.leaf-index c.args.leaves.now (omega arith)) at c.loop-leaf.invariant
