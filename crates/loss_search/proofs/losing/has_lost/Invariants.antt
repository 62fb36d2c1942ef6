use Rattle.std.proofs.Common.{ℕ, ◌<◌, slice_get}
use Rattle.std.specs.Option.{ForSome}
use Rattle.custody_core.specs.Custody.{IsKeptAs}
use Rattle.custody_steps.specs.WorldOf.{net_of}
use Rattle.loss_search.proofs.losing.has_lost.Given as goal

abbrev pub invariant-loop-number : goal.invariant-loop-number
invariant-loop-number g l = (k : ℕ) → k < l.number → ForSome (slice_get l.fn.world.shown.world.acknowledged k) (IsKeptAs l.fn.duty (net_of l.fn.world) l.fn.world.shown.world)
