use Rattle.std.proofs.Common.{◌≡◌, [], List, Option, length, unwrap_or, refl, ap}
use Rattle.std.proofs.lemmas.Option.{slice_get_read, slice_get_past}
use Rattle.route_graph.specs.Table.{Rule}
use Rattle.route_graph.specs.Ways.{rules_at}
use Rattle.route_graph.proofs.routes.Routes.taker.Goals as goal

pub returns : goal.returns
returns g c =
    let scopes = c.self.inside.scopes.items in
    let at = rw c.deref.ensures.value at c.in_ok-found.ensures.lookup in
    let rules : rules_at scopes c.args.scope.0 ≡ c.in_ok-found.found.now = ap (λ (o : Option (List Rule)). unwrap_or o []) (slice_get_read scopes (length scopes) c.args.scope.0 c.in_ok-found.found.now refl at.3.0 at.1) in
    rw (← c.self.view_is, rules) c.taker.ensures

pub returns-in_err-found : goal.returns-in_err-found
returns-in_err-found g c =
    let scopes = c.self.inside.scopes.items in
    let at = rw c.deref.ensures.value at c.in_err-found.ensures.lookup in
    let none : rules_at scopes c.args.scope.0 ≡ [] = ap (λ (o : Option (List Rule)). unwrap_or o []) (slice_get_past scopes c.args.scope.0 at.3) in
    rw (c.from_residual.ensures, ← c.self.view_is, none) (λ rule taken. taken)
