use Rattle.std.proofs.Common.{◌≡◌, map, take}
use Rattle.std.specs.Arc.{arc_value}
use Rattle.loop_core.proofs.parting.shares_of.Given as goal

abbrev pub invariant-loop-one : goal.invariant-loop-one
invariant-loop-one g l = map (λ buffer. arc_value buffer) l.shares.items ≡ map (λ one. one.owned.terms) (take l.one-index l.opened)
