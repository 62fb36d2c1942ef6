use Rattle.std.proofs.Common.{◌∙◌, ◌+◌, sym, map, drop, Ok, Err}
use Rattle.std.proofs.lemmas.Result.{err_from_is_err_and}
use Rattle.std.proofs.lemmas.List.{drop_all}
use Rattle.conf_text.specs.Trees.{trees}
use Rattle.conf_text.specs.Views.{tree_of}
use Rattle.relay_conf.specs.Labels.{tree_targets}
use Rattle.relay_conf.proofs.Findings.{continues_behind, refuses_front, refuses_behind, AllPass-append}
use Rattle.relay_conf.proofs.Labelling.{trees_targets, targets_are, targets_step}
use Rattle.relay_conf.proofs.labels.+examine_targets.Goals as goal

pub returns-in_err-examine_pairs : goal.returns-in_err-examine_pairs
returns-in_err-examine_pairs g t c =
    let p = err_from_is_err_and c.from_residual.result c.from_residual.ensures.1 in
    let all = map tree_of c.args.elements.now in
    let wrong = rw c.pairs_of.ensures at c.in_err-examine_pairs.ensures in
    rw (p.1, p.2, targets_are all c.args.element.now (sym c.is_named.ensures ∙ c.if-is_named.false)) (refuses_front _ _ _ wrong)

pub returns-in_err-examine_targets : goal.returns-in_err-examine_targets
returns-in_err-examine_targets g t c =
    let p = err_from_is_err_and c.from_residual-in_err-examine_targets.result c.from_residual-in_err-examine_targets.ensures.1 in
    let all = map tree_of c.args.elements.now in
    let kids = c.deref-child-items.result.now in
    let right = rw c.pairs_of.ensures at c.in_ok-examine_pairs.ensures in
    let here = targets_step all kids c.loop-child.child-index c.child-item.result c.loop-child-test.true c.child-item.is in
    let within = (rw here at c.loop-child.invariant) (Err c.in_err-examine_targets.field-0.0) (refuses_front (tree_targets all (tree_of c.child-item.result)) (trees_targets all (trees (map tree_of (drop (c.loop-child.child-index + 1) kids)))) _ c.in_err-examine_targets.ensures) in
    rw (p.1, p.2, targets_are all c.args.element.now (sym c.is_named.ensures ∙ c.if-is_named.false), ← c.deref-child-items.ensures.value) (refuses_behind _ _ _ right within)

pub loop-child-preserved : goal.loop-child-preserved
loop-child-preserved g t c =
    let all = map tree_of c.args.elements.now in
    let kids = c.deref-child-items.result.now in
    let here = targets_step all kids c.loop-child.child-index c.child-item.result c.loop-child-test.true c.child-item.is in
    continues_behind (tree_targets all (tree_of c.child-item.result)) (trees_targets all (trees (map tree_of (drop (c.loop-child.child-index + 1) kids)))) (trees_targets all (trees (map tree_of kids))) c.in_ok-examine_targets.ensures (rw here at c.loop-child.invariant)

pub returns : goal.returns
returns g t c =
    let all = map tree_of c.args.elements.now in
    let kids = c.deref-child-items.result.now in
    let right = rw c.pairs_of.ensures at c.in_ok-examine_pairs.ensures in
    let none = drop_all c.loop-child.child-index kids c.loop-child-test.false in
    let within = c.loop-child.invariant (Ok tt) (rw none tt) in
    rw (targets_are all c.args.element.now (sym c.is_named.ensures ∙ c.if-is_named.false), ← c.deref-child-items.ensures.value) (AllPass-append _ _ right within)
