use Rattle.std.proofs.Common.{◌≡◌, ◌++◌, ◌∷◌, ◌+◌, ◌∙◌, [], List, true, false, take, get_or, sym, subst, arith}
use Rattle.std.proofs.lemmas.List.{take_all, take_more}
use Rattle.loss_rules.specs.Lines.{AddsLines}
use Rattle.loss_rules.specs.declared.relabel.Relabel.{Relabel}
use Rattle.loss_rules.proofs.Cycles.{IsAmong, among-back, among-gone}
use Rattle.loss_rules.proofs.graph.RelabelGraph.add_lines_from.Goals as goal
use Rattle.loss_rules.proofs.graph.RelabelGraph.add_lines_from.Goals.{then-branch+in_ok-push, else-branch}

pub loop-relabel-preserved : goal.loop-relabel-preserved
loop-relabel-preserved g c =
    let items = c.relabels-relabel-items.result.now in
    let index = c.loop-relabel.relabel-index in
    let graph = c.args.self.now in
    let scope = c.args.scope in
    let relabel : Relabel = get_or items index (record { target = 0; line = 0 }) in
    let cut : take (index + 1) items ≡ take index items ++ relabel ∷ [] = take_more items index (record { target = 0; line = 0 }) (omega arith) in
    subst (λ (x : List Relabel). AddsLines (IsAmong graph scope x) c.args.lines.now.items c.if-branch.lines.items) (sym cut) (elim c.if-branch.branch [
      | then-branch+in_ok-push w ↦ rw (w.lines-is, w.in_ok-push.ensures.items) (among-back graph scope (take index items) relabel _ _ (c.in_ok-leads.ensures.0 w.if-branch.true) c.loop-relabel.invariant)
      | else-branch w ↦ rw w.lines-is (among-gone graph scope (take index items) relabel _ _ (λ leads. let found = c.in_ok-leads.ensures.1 leads in let same : true ≡ false = sym found ∙ w.if-branch.false in cc) c.loop-relabel.invariant)
    ])

pub returns : goal.returns
returns g c =
    let all = take_all c.loop-relabel.relabel-index c.relabels-relabel-items.result.now (omega arith) ∙ c.relabels-relabel-items.ensures in
    subst (λ (x : List Relabel). AddsLines (IsAmong c.args.self.now c.args.scope x) c.args.lines.now.items c.loop-relabel.lines.items) all c.loop-relabel.invariant
