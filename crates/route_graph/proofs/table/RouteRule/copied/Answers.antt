use Rattle.std.proofs.Common.{refl}
use Rattle.route_graph.proofs.table.RouteRule.copied.Goals as goal

pub returns : goal.returns
returns g c = rw (c.in_ok-copied_plains.ensures, c.in_ok-hops_of_outputs.ensures, c.deref.ensures.value, c.deref-2.ensures.value) refl
