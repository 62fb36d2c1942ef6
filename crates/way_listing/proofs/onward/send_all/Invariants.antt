use Rattle.std.proofs.Common.{◌≡◌, take}
use Rattle.relay_net.specs.Routed.{SendsTo}
use Rattle.way_listing.specs.Sendings.{Adds, Through}
use Rattle.way_listing.proofs.onward.send_all.Given as goal

abbrev pub invariant-loop-leaf : goal.invariant-loop-leaf
invariant-loop-leaf g l = Adds (Through (λ leaf next. SendsTo l.net l.place leaf.0 next.address × (next.tag ≡ l.tag)) (take l.leaf-index l.leaves)) l.fn.found.items l.found.items
