use Rattle.std.proofs.Common.{◌≡◌, ◌++◌, drop, map, reverse}
use Rattle.route_graph.specs.declared.visit.Step.TheVariants.{Take}
use Rattle.route_graph.proofs.visit.push_steps.Given as goal

abbrev pub invariant-loop-place : goal.invariant-loop-place
invariant-loop-place g l = reverse l.ahead.items ≡ map Take (drop l.place l.hops) ++ reverse l.fn.ahead.items
