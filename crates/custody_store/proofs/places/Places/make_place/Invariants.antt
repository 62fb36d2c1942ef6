use Rattle.std.proofs.Common.{◌+◌, ◌-◌, length}
use Rattle.custody_store.specs.Places.{AreSame}
use Rattle.custody_store.proofs.places.Places.make_place.Given as goal

abbrev pub invariant-loop-alloc : goal.invariant-loop-alloc
invariant-loop-alloc g l = AreSame l.fn.self l.self

abbrev pub decreases-loop-alloc : goal.decreases-loop-alloc
decreases-loop-alloc g l = l.place + 1 - length l.self.list.items
