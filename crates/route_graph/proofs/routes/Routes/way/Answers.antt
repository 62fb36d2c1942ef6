use Rattle.std.proofs.Common.{◌≡◌, ◌+◌, List, length, refl, sym, ap, subst, ◌∙◌, arith}
use Rattle.route_graph.specs.Table.{Rule}
use Rattle.route_graph.specs.Visits.{Known}
use Rattle.route_graph.specs.declared.visit.Mark.{Mark}
use Rattle.route_graph.specs.declared.visit.Step.{Step}
use Rattle.route_graph.proofs.Reached.{reached-no_loop, reached-leaves, reached-once}
use Rattle.route_graph.proofs.Search.{IsKnown, known-begun, known-left, known-stored, known-done, known-loop, known-entered, known-ended, known-parts}
use Rattle.route_graph.proofs.Weights.{weight, weight-done, enter-smaller}
use Rattle.route_graph.proofs.routes.Routes.way.Goals as goal

pub loop-step-init : goal.loop-step-init
loop-step-init g c =
    let seen = ap (λ (x : List (List Rule)). length x) c.self.view_is in
    let count : c.len.result ≡ length c.args.self.now = omega (arith, c.len.ensures, c.self.inside.scopes.ok.0) in
    subst (λ (x : Known). IsKnown c.args.self.now c.args.tag.now c.args.scope.0 x) (sym c.in_ok-visit.ensures) (rw count (known-begun c.args.self.now c.args.tag.now c.args.scope))

pub loop-step-smaller-in-Leave : goal.loop-step-smaller-in-Leave
loop-step-smaller-in-Leave g c =
    let before = ap (λ (x : Known). length x.coming + weight x.marks c.args.self.now) (rw (c.in-Some.is, c.in-Leave.is) at c.next.ensures.taken) in
    let after = ap (λ (x : Known). length x.coming + weight x.marks c.args.self.now) c.leave.ensures in
    let less = weight-done c.next.new.self.marks c.args.self.now c.in-Leave.left.0 in
    omega arith

pub loop-step-preserved-in-Leave : goal.loop-step-preserved-in-Leave
loop-step-preserved-in-Leave g c =
    let before = rw (c.in-Some.is, c.in-Leave.is) at c.next.ensures.taken in
    let known = subst (λ (x : Known). IsKnown c.args.self.now c.args.tag.now c.args.scope.0 x) before c.loop-step.invariant in
    subst (λ (x : Known). IsKnown c.args.self.now c.args.tag.now c.args.scope.0 x) (sym c.leave.ensures) (known-left _ _ _ _ _ _ c.in-Leave.left known)

pub loop-step-preserved-in-Continue-branch-2 : goal.loop-step-preserved-in-Continue-branch-2
loop-step-preserved-in-Continue-branch-2 g c =
    let before = rw (c.in-Some.is, c.in-Take.is, c.in-Buffer.is) at c.next.ensures.taken in
    let known = subst (λ (x : Known). IsKnown c.args.self.now c.args.tag.now c.args.scope.0 x) before c.loop-step.invariant in
    let with = c.in_ok-add-in-Buffer.ensures in
    known-parts _ _ _ c.add.new.self _ _ _ with.marks with.coming refl (known-stored _ _ _ _ _ _ _ c.in-Buffer.buffer with.found known)

pub loop-step-preserved-in-Done : goal.loop-step-preserved-in-Done
loop-step-preserved-in-Done g c =
    let before = rw (c.in-Some.is, c.in-Take.is, c.in-Scope.is) at c.next.ensures.taken in
    let known = subst (λ (x : Known). IsKnown c.args.self.now c.args.tag.now c.args.scope.0 x) before c.loop-step.invariant in
    known-done _ _ _ _ _ _ c.in-Scope.target (sym c.mark.ensures ∙ c.in-Done.is) known

pub returns-in-Open-clause-way : goal.returns-in-Open-clause-way
returns-in-Open-clause-way g c =
    let before = rw (c.in-Some.is, c.in-Take.is, c.in-Scope.is) at c.next.ensures.taken in
    let known = subst (λ (x : Known). IsKnown c.args.self.now c.args.tag.now c.args.scope.0 x) before c.loop-step.invariant in
    known-loop _ _ _ _ _ _ c.in-Scope.target (sym c.mark.ensures ∙ c.in-Open.is) known

pub loop-step-smaller : goal.loop-step-smaller
loop-step-smaller g c =
    let before = rw (c.in-Some.is, c.in-Take.is, c.in-Scope.is) at c.next.ensures.taken in
    let known = subst (λ (x : Known). IsKnown c.args.self.now c.args.tag.now c.args.scope.0 x) before c.loop-step.invariant in
    let weighs = ap (λ (x : Known). length x.coming + weight x.marks c.args.self.now) before in
    let new = c.in_ok-enter-in-New.ensures in
    let marks = ap (λ (x : List Mark). weight x c.args.self.now) new.marks in
    let coming = ap (λ (x : List Step). length x) new.coming in
    let less = enter-smaller c.next.new.self.marks c.args.self.now c.args.tag.now c.in-Scope.target c.hops_from.result.now c.next.new.self.coming known.sized (sym c.mark.ensures ∙ c.in-New.is) c.hops_from.ensures in
    omega arith

pub loop-step-preserved : goal.loop-step-preserved
loop-step-preserved g c =
    let before = rw (c.in-Some.is, c.in-Take.is, c.in-Scope.is) at c.next.ensures.taken in
    let known = subst (λ (x : Known). IsKnown c.args.self.now c.args.tag.now c.args.scope.0 x) before c.loop-step.invariant in
    let new = c.in_ok-enter-in-New.ensures in
    known-parts _ _ _ c.enter.new.self _ _ _ new.marks new.coming new.found (known-entered _ _ _ _ _ _ c.in-Scope.target c.hops_from.result.now (sym c.mark.ensures ∙ c.in-New.is) c.hops_from.ensures known)

pub returns-clause-way : goal.returns-clause-way
returns-clause-way g c =
    let same = c.into_found.ensures ∙ sym (ap (λ (x : Known). x.found) c.in_default.ensures.taken) in
    let reached = known-ended _ _ _ c.loop-step.visit _ c.loop-step.invariant c.in_default.ensures.none same in
    (reached-no_loop _ _ _ _ reached, reached)

pub returns-clause-leaves : goal.returns-clause-leaves
returns-clause-leaves g c =
    let same = c.into_found.ensures ∙ sym (ap (λ (x : Known). x.found) c.in_default.ensures.taken) in
    reached-leaves _ _ _ _ (known-ended _ _ _ c.loop-step.visit _ c.loop-step.invariant c.in_default.ensures.none same)

pub returns-clause-once : goal.returns-clause-once
returns-clause-once g c =
    let same = c.into_found.ensures ∙ sym (ap (λ (x : Known). x.found) c.in_default.ensures.taken) in
    reached-once _ _ _ _ (known-ended _ _ _ c.loop-step.visit _ c.loop-step.invariant c.in_default.ensures.none same)
