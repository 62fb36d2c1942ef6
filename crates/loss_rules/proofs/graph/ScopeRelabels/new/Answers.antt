use Rattle.std.proofs.Common.{◌≡◌, ◌+◌, ◌++◌, Some, length, slice_get, refl, sym, ap, subst, ◌∙◌, arith}
use Rattle.std.specs.List.{filter_map}
use Rattle.std.proofs.lemmas.Option.{slice_get_read}
use Rattle.loss_rules.specs.Graphs.{relabel_of}
use Rattle.loss_rules.specs.Sites.{matches_at}
use Rattle.loss_rules.proofs.Building.{AreBelow, below-none, below-more, below-apart, below-all}
use Rattle.loss_rules.proofs.Seeks.{not_true}
use Rattle.loss_rules.proofs.graph.ScopeRelabels.new.Goals as goal
use Rattle.loss_rules.proofs.graph.ScopeRelabels.new.Goals.{then-is_reached+in_ok-add, else-is_reached}

pub loop-rule-init : goal.loop-rule-init
loop-rule-init g c = subst (AreBelow c.args.net.now c.args.reaches.now c.args.place c.args.scope 0) (sym c.new.ensures.items) (below-none c.args.net.now c.args.reaches.now c.args.place c.args.scope)

pub loop-rule-preserved : goal.loop-rule-preserved
loop-rule-preserved g c =
    let net = c.args.net.now in
    let reaches = c.args.reaches.now in
    let rule = c.loop-rule.rule in
    let there : slice_get (matches_at net c.args.place c.args.scope) rule ≡ Some c.taker-item.result =
    rw (← c.matches_at-taker-items.ensures) (slice_get_read c.matches_at-taker-items.result.now _ rule c.taker-item.result refl (omega arith) c.taker-item.is) in
    elim c.if-is_reached.branch [
      | then-is_reached+in_ok-add w ↦ subst (AreBelow net reaches c.args.place c.args.scope (rule + 1)) (sym w.found-is)
          (below-more net reaches c.args.place c.args.scope rule c.taker-item.result c.loop-rule.found w.add.new.self there (w.if-is_reached.ensures.0 refl)
          (w.in_ok-add.ensures ∙ ap (λ outputs. c.loop-rule.found ++ filter_map relabel_of outputs) w.deref.ensures.value) c.loop-rule.invariant)
      | else-is_reached w ↦ subst (AreBelow net reaches c.args.place c.args.scope (rule + 1)) (sym w.found-is)
          (below-apart net reaches c.args.place c.args.scope rule c.loop-rule.found (λ r. not_true (w.if-is_reached.ensures.1 r)) c.loop-rule.invariant)
    ]

pub returns : goal.returns
returns g c =
    let count = ap (λ x. length x) c.matches_at-taker-items.ensures in
    below-all c.args.net.now c.args.reaches.now c.args.place c.args.scope c.loop-rule.rule c.loop-rule.found (omega (arith, count)) c.loop-rule.invariant
