-- What the list of the buffers first reached says.
use Rattle.std.proofs.Common.{◌≢◌, ℕ, List, sym, subst, ◌↔◌, AllPairs, Contains}
use Rattle.route_graph.specs.Listing.{AreFirstReached}
use Rattle.route_graph.specs.Table.{Table}
use Rattle.route_graph.specs.Ways.{IsLeaf, IsLoop}
use Rattle.route_graph.proofs.Firsts.{firsts-contained, contained-firsts, firsts-once}
use Rattle.route_graph.proofs.WalkLaws.{walk-leaves, walk-no_loop}

pub reached-no_loop : (table : Table) (tag : List ℕ) (scope : ℕ) (buffers : List ℕ) → AreFirstReached table tag scope buffers → IsLoop table tag scope → ⊥
reached-no_loop table tag scope buffers (walk, w, e) loop = walk-no_loop table tag scope walk w loop

pub reached-leaves : (table : Table) (tag : List ℕ) (scope : ℕ) (buffers : List ℕ) → AreFirstReached table tag scope buffers → (buffer : ℕ) → Contains buffers buffer ↔ IsLeaf table tag scope buffer
reached-leaves table tag scope buffers (walk, w, e) buffer =
    let same = walk-leaves table tag scope walk w buffer in
    (λ c. same.0 (firsts-contained walk buffer (subst (λ (x : List ℕ). Contains x buffer) e c)), λ h. subst (λ (x : List ℕ). Contains x buffer) (sym e) (contained-firsts walk buffer (same.1 h)))

pub reached-once : (table : Table) (tag : List ℕ) (scope : ℕ) (buffers : List ℕ) → AreFirstReached table tag scope buffers → AllPairs (λ x y. x ≢ y) buffers
reached-once table tag scope buffers (walk, w, e) = subst (λ (x : List ℕ). AllPairs (λ x y. x ≢ y) x) (sym e) (firsts-once walk)
