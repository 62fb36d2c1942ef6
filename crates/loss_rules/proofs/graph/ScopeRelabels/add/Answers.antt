use Rattle.std.proofs.Common.{◌++◌, ◌∙◌, refl, ap, sym, arith}
use Rattle.std.specs.List.{filter_map}
use Rattle.std.proofs.lemmas.List.{take_all, append-nil}
use Rattle.loss_rules.specs.Graphs.{relabel_of}
use Rattle.loss_rules.proofs.Building.{relabels-more}
use Rattle.loss_rules.proofs.graph.ScopeRelabels.add.Goals as goal
use Rattle.loss_rules.proofs.graph.ScopeRelabels.add.Goals.{in-Some+in_ok-push, in_default}

pub loop-output-preserved : goal.loop-output-preserved
loop-output-preserved g c = relabels-more c.args.outputs.now c.loop-output.output-index c.output-item.result c.args.self.now c.loop-output.self-inside.relabels.items c.match-as_relabel.self-inside.relabels.items (omega arith) c.output-item.is c.loop-output.invariant (elim c.match-as_relabel.branch [
  | in-Some+in_ok-push w ↦ rw (w.self-inside-is, w.in_ok-push.ensures.items, ← c.as_relabel.ensures, w.in-Some.is) refl
  | in_default w ↦ rw (w.self-inside-is, ← c.as_relabel.ensures, w.in_default.is) (sym (append-nil c.loop-output.self-inside.relabels.items))
])

pub returns : goal.returns
returns g c = c.loop-output.invariant ∙ ap (λ x. c.args.self.now ++ filter_map relabel_of x) (take_all c.loop-output.output-index c.args.outputs.now (omega arith))

pub loop-output-init : goal.loop-output-init
loop-output-init g c = c.self.view_is ∙ sym (append-nil c.args.self.now)
