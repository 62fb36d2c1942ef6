use Rattle.std.proofs.Common.{◌+◌, ◌++◌, map, drop, take, Err}
use Rattle.std.proofs.lemmas.Result.{err_from_is_err_and}
use Rattle.conf_text.specs.Views.{tree_of}
use Rattle.relay_conf.specs.Labels.{tree_targets, double_found, labels_from}
use Rattle.relay_conf.proofs.Findings.{continues_behind, refuses_front, refuses_behind}
use Rattle.relay_conf.proofs.Labelling.{labels_step}
use Rattle.relay_conf.proofs.labels.examine_labels.Goals as goal

pub returns-in_err-examine_name : goal.returns-in_err-examine_name
returns-in_err-examine_name g c =
    let p = err_from_is_err_and c.from_residual.result c.from_residual.ensures.1 in
    let xs = c.args.elements.now in
    let x = c.index-elements-i.result in
    let step = labels_step xs c.loop-i.i x c.loop-i-test.true c.index-elements-i.is in
    let wrong = rw c.split_at.ensures.front at c.in_err-examine_name.ensures in
    rw (p.1, p.2) ((rw step at c.loop-i.invariant) (Err c.in_err-examine_name.field-0.0) (refuses_front (double_found (map tree_of (take c.loop-i.i xs)) (tree_of x)) (tree_targets (map tree_of xs) (tree_of x) ++ labels_from (map tree_of xs) (c.loop-i.i + 1) (map tree_of (drop (c.loop-i.i + 1) xs))) _ wrong))

pub returns-in_err-examine_targets : goal.returns-in_err-examine_targets
returns-in_err-examine_targets g c =
    let p = err_from_is_err_and c.from_residual-in_err-examine_targets.result c.from_residual-in_err-examine_targets.ensures.1 in
    let xs = c.args.elements.now in
    let x = c.index-elements-i.result in
    let step = labels_step xs c.loop-i.i x c.loop-i-test.true c.index-elements-i.is in
    let right = rw c.split_at.ensures.front at c.in_ok-examine_name.ensures in
    let rest = labels_from (map tree_of xs) (c.loop-i.i + 1) (map tree_of (drop (c.loop-i.i + 1) xs)) in
    rw (p.1, p.2) ((rw step at c.loop-i.invariant) (Err c.in_err-examine_targets.field-0.0) (refuses_behind (double_found (map tree_of (take c.loop-i.i xs)) (tree_of x)) (tree_targets (map tree_of xs) (tree_of x) ++ rest) _ right (refuses_front (tree_targets (map tree_of xs) (tree_of x)) rest _ c.in_err-examine_targets.ensures)))

pub loop-i-preserved : goal.loop-i-preserved
loop-i-preserved g c =
    let xs = c.args.elements.now in
    let x = c.index-elements-i.result in
    let step = labels_step xs c.loop-i.i x c.loop-i-test.true c.index-elements-i.is in
    let right = rw c.split_at.ensures.front at c.in_ok-examine_name.ensures in
    let rest = labels_from (map tree_of xs) (c.loop-i.i + 1) (map tree_of (drop (c.loop-i.i + 1) xs)) in
    let all = labels_from (map tree_of xs) 0 (map tree_of xs) in
    continues_behind (tree_targets (map tree_of xs) (tree_of x)) rest all c.in_ok-examine_targets.ensures
    (continues_behind (double_found (map tree_of (take c.loop-i.i xs)) (tree_of x)) (tree_targets (map tree_of xs) (tree_of x) ++ rest) all right (rw step at c.loop-i.invariant))
