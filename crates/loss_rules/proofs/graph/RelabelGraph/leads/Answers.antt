use Rattle.std.proofs.Common.{◌≡◌, ◌++◌, ◌∷◌, ◌∙◌, ◌↔◌, ℕ, Bool, true, false, [], List, length, map, replicate, ap, sym, subst, arith}
use Rattle.route_graph.specs.Chains.{Chain}
use Rattle.loss_rules.specs.Graphs.{Leads}
use Rattle.loss_rules.specs.Visits.{mark_at}
use Rattle.loss_rules.specs.declared.relabel.Relabel.{Relabel}
use Rattle.loss_rules.proofs.Visits.{visit-begun, visit-passed, visit-entered, visit-ended, visit-parts}
use Rattle.loss_rules.proofs.Weights.{weight, entered-smaller, passed-less}
use Rattle.loss_rules.proofs.graph.RelabelGraph.leads.Goals as goal

pub loop-scope-init : goal.loop-scope-init
loop-scope-init g c =
    let seen = ap (λ (x : List (List Relabel)). length x) c.self.view_is in
    let count : c.len.result ≡ length c.args.self.now = omega (arith, c.len.ensures, c.self.inside.scopes.ok.0) in
    visit-parts c.args.self.now c.args.start _ _ _ _ (c.in_ok-visit.ensures.marks ∙ ap (λ (x : ℕ). replicate x false) count) c.in_ok-visit.ensures.ahead (visit-begun c.args.self.now c.args.start)

pub loop-scope-smaller-in-Continue-branch-2 : goal.loop-scope-smaller-in-Continue-branch-2
loop-scope-smaller-in-Continue-branch-2 g c =
    let next = c.in-Some.ensures in
    let unmarked : mark_at c.next.new.self.marks.items c.in-Some.scope ≡ false = sym c.is_marked.ensures ∙ c.if-not-is_marked.true in
    let ahead_before = ap (λ (x : List ℕ). length x) next.some in
    let marks_before = ap (λ (x : List Bool). weight x c.args.self.now) next.marks in
    let sized_before = ap (λ (x : List Bool). length x) next.marks in
    let marks_after = ap (λ (x : List Bool). weight x c.args.self.now) (c.in_ok-follow.ensures.marks ∙ c.mark.ensures.marks) in
    let ahead_after = ap (λ (x : List ℕ). length x) (c.in_ok-follow.ensures.ahead ∙ ap (λ (x : List ℕ). x ++ map (λ (relabel : Relabel). relabel.target) c.relabels.result.now) c.mark.ensures.ahead ∙ ap (λ (x : List Relabel). c.next.new.self.ahead.items ++ map (λ (relabel : Relabel). relabel.target) x) c.relabels.ensures) in
    let less = entered-smaller c.next.new.self.marks.items c.args.self.now c.next.new.self.ahead.items c.in-Some.scope (omega (arith, sized_before, c.loop-scope.invariant.sized)) unmarked in
    omega arith

pub loop-scope-preserved-in-Continue-branch-2 : goal.loop-scope-preserved-in-Continue-branch-2
loop-scope-preserved-in-Continue-branch-2 g c =
    let next = c.in-Some.ensures in
    let unmarked : mark_at c.next.new.self.marks.items c.in-Some.scope ≡ false = sym c.is_marked.ensures ∙ c.if-not-is_marked.true in
    let visit = visit-parts c.args.self.now c.args.start _ c.next.new.self.marks.items _ (c.next.new.self.ahead.items ++ c.in-Some.scope ∷ []) next.marks (sym next.some) c.loop-scope.invariant in
    let marks = c.in_ok-follow.ensures.marks ∙ c.mark.ensures.marks in
    let ahead = c.in_ok-follow.ensures.ahead ∙ ap (λ (x : List ℕ). x ++ map (λ (relabel : Relabel). relabel.target) c.relabels.result.now) c.mark.ensures.ahead ∙ ap (λ (x : List Relabel). c.next.new.self.ahead.items ++ map (λ (relabel : Relabel). relabel.target) x) c.relabels.ensures in
    visit-parts c.args.self.now c.args.start _ _ _ _ marks ahead (visit-entered c.args.self.now c.args.start c.next.new.self.marks.items c.next.new.self.ahead.items c.in-Some.scope unmarked visit)

pub loop-scope-preserved : goal.loop-scope-preserved
loop-scope-preserved g c =
    let next = c.in-Some.ensures in
    let marked : mark_at c.next.new.self.marks.items c.in-Some.scope ≡ true = sym c.is_marked.ensures ∙ c.if-not-is_marked.false in
    let visit = visit-parts c.args.self.now c.args.start _ c.next.new.self.marks.items _ (c.next.new.self.ahead.items ++ c.in-Some.scope ∷ []) next.marks (sym next.some) c.loop-scope.invariant in
    visit-passed c.args.self.now c.args.start c.next.new.self.marks.items c.next.new.self.ahead.items c.in-Some.scope marked visit

pub returns : goal.returns
returns g c =
    let all = visit-ended c.args.self.now c.args.start c.loop-scope.visit.marks.items c.loop-scope.visit.ahead.items c.args.last c.loop-scope.invariant c.in_default.ensures.none c.requires in
    subst (λ (x : Bool). (x ≡ true) ↔ Chain (Leads c.args.self.now) c.args.start c.args.last) (sym (c.is_marked-2.ensures ∙ ap (λ (x : List Bool). mark_at x c.args.last) c.in_default.ensures.marks)) all

pub loop-scope-smaller : goal.loop-scope-smaller
loop-scope-smaller g c = passed-less c.args.self.now c.next.new.self.marks.items c.loop-scope.visit.marks.items c.next.new.self.ahead.items c.loop-scope.visit.ahead.items c.in-Some.scope c.in-Some.ensures.marks c.in-Some.ensures.some
