use Rattle.std.proofs.Common.{◌-◌, length}
use Rattle.forward_core.proofs.Replying.{Passing}
use Rattle.forward_core.proofs.replies.listen_to.Given as goal

abbrev pub invariant-items : goal.invariant-items
invariant-items g l = Passing l.chunk l.bytes l.at

abbrev pub decreases-items : goal.decreases-items
decreases-items g l = length l.bytes - l.at
