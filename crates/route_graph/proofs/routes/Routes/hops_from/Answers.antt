use Rattle.std.proofs.Common.{List, sym, subst}
use Rattle.route_graph.specs.Walks.{AreHopsFrom, taken, let_go}
use Rattle.route_graph.specs.declared.hop.Hop.{Hop}
use Rattle.route_graph.proofs.routes.Routes.hops_from.Goals as goal

pub returns-in-Some : goal.returns-in-Some
returns-in-Some g c = subst (λ (x : List Hop). AreHopsFrom c.args.self.now c.args.tag.now c.args.scope.0 x) (sym c.hops.ensures) (taken _ (rw c.in-Some.is at c.taker.ensures))

pub returns-in-None : goal.returns-in-None
returns-in-None g c = let_go (rw c.in-None.is at c.taker.ensures)
