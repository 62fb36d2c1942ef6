use Rattle.std.proofs.Common.{◌≡◌, arith}
use Rattle.std.proofs.lemmas.List.{take_all, take_more}
use Rattle.relay_net.specs.Routed.{SendsTo}
use Rattle.way_listing.proofs.Adding.{adds_none, adds_more}
use Rattle.way_listing.proofs.onward.send_all.Goals as goal

pub loop-leaf-init : goal.loop-leaf-init
loop-leaf-init g c = adds_none (λ leaf next. SendsTo c.args.net.now c.args.place leaf.0 next.address × (next.tag ≡ c.args.tag.now)) c.args.found.now.items

pub loop-leaf-preserved : goal.loop-leaf-preserved
loop-leaf-preserved g c =
    let more = take_more c.args.leaves.now c.loop-leaf.leaf-index _ (omega arith) in
    rw more (adds_more (λ leaf next. SendsTo c.args.net.now c.args.place leaf.0 next.address × (next.tag ≡ c.args.tag.now)) _ _ _ _ _ c.loop-leaf.invariant c.in_ok-send.ensures)

pub returns : goal.returns
returns g c = rw (take_all c.loop-leaf.leaf-index c.args.leaves.now (omega arith)) at c.loop-leaf.invariant
