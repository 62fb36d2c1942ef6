use Rattle.relay_ports.proofs.Ordering.{InOrderBefore}
use Rattle.relay_ports.proofs.paths.are_in_order.Given as goal

abbrev pub invariant-loop-place : goal.invariant-loop-place
invariant-loop-place g l = InOrderBefore l.outputs l.place
