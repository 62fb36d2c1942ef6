-- In a relay without scopes an event reaches nothing.
use Rattle.std.proofs.Common.{ℕ, List, [], Contains, refl, arith}
use Rattle.std.specs.Prelude.{◌↔◌}
use Rattle.route_graph.specs.Listing.{AreFirstReached}
use Rattle.route_graph.specs.Walks.{let_go, ended}
use Rattle.route_graph.specs.Ways.{IsLeaf, own, further, IsLoop}

pub no_loop : (tag : List ℕ) (scope : ℕ) → ¬ IsLoop [] tag scope
no_loop tag scope loop = loop.left.1

pub nothing_reached : (tag : List ℕ) (scope : ℕ) → AreFirstReached [] tag scope []
nothing_reached tag scope = ([], ([], let_go (λ taker h. h), ended), refl)

pub no_leaf : (tag : List ℕ) (scope buffer : ℕ) → ¬ IsLeaf [] tag scope buffer
no_leaf tag scope buffer (own h) = h.1
no_leaf tag scope buffer (further h more) = h.1

not_there : (buffer : ℕ) → ¬ Contains [] buffer
not_there buffer (k, less, is) = omega arith

pub no_leaves : (tag : List ℕ) (scope buffer : ℕ) → Contains [] buffer ↔ IsLeaf [] tag scope buffer
no_leaves tag scope buffer = (λ h. absurd (not_there buffer h), λ h. absurd (no_leaf tag scope buffer h))
