use Rattle.std.proofs.Common.{take}
use Rattle.relay_net.specs.Arrivals.{Grows, Through, IsSentOn}
use Rattle.relay_net.proofs.following.follow_buffers.Given as goal

abbrev pub invariant-loop-leaf : goal.invariant-loop-leaf
invariant-loop-leaf g l = Grows (Through (λ leaf. IsSentOn l.net l.wanted l.place leaf.0 l.tag) (take l.leaf-index l.leaves)) l.fn.found.items l.found.items
