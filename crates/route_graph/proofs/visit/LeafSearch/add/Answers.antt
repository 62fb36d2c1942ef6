use Rattle.std.proofs.Common.{◌≡◌, ◌∙◌, ap, sym, inl, true, refl, arith}
use Rattle.std.specs.Ordering.{nat_cmp}
use Rattle.std.specs.BTreeSet.{contains}
use Rattle.route_graph.specs.Listing.{numbers_of}
use Rattle.route_graph.specs.Visits.{Known}
use Rattle.route_graph.proofs.Numbered.{found_in}
use Rattle.route_graph.proofs.visit.LeafSearch.add.Goals as goal

pub returns-else-branch-clause-found : goal.returns-else-branch-clause-found
returns-else-branch-clause-found g c =
    let seen = ap (λ (x : Known). x.found) c.self.view_is in
    let added = c.in_ok-insert.ensures.added in
    let old = c.if-branch.false in
    let has : contains nat_cmp c.self.inside.numbers c.args.buffer.0 ≡ true = grind (arith, added, old) in
    let same = ap (λ bs. numbers_of bs) c.in_ok-reserve.ensures.items in
    rw (same, ← seen) (inl (found_in (numbers_of c.self.inside.found.items) c.args.buffer.0 (sym (c.self.invariant c.args.buffer.0) ∙ has), refl))
