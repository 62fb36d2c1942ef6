use Rattle.std.proofs.Common.{◌+◌, map, drop, Ok, Err}
use Rattle.std.proofs.lemmas.Result.{err_from_is_err_and}
use Rattle.std.proofs.lemmas.List.{drop_all}
use Rattle.std.specs.List.{flat_map}
use Rattle.conf_text.specs.Views.{setting, tree_of}
use Rattle.relay_conf.specs.Labels.{target_found}
use Rattle.relay_conf.proofs.Drops.{drop_is}
use Rattle.relay_conf.proofs.Findings.{continues_behind, refuses_front}
use Rattle.relay_conf.proofs.labels.examine_pairs.Goals as goal

pub returns-in_err-examine_pair : goal.returns-in_err-examine_pair
returns-in_err-examine_pair g c =
    let p = err_from_is_err_and c.from_residual.result c.from_residual.ensures.1 in
    let here = drop_is c.args.pairs.now c.loop-pair.pair-index c.pair-item.result c.loop-pair-test.true c.pair-item.is in
    let rest = flat_map (target_found (map tree_of c.args.elements.now)) (map setting (drop (c.loop-pair.pair-index + 1) c.args.pairs.now)) in
    rw (p.1, p.2) ((rw here at c.loop-pair.invariant) (Err c.in_err-examine_pair.field-0.0) (refuses_front (target_found (map tree_of c.args.elements.now) (setting c.pair-item.result)) rest _ c.in_err-examine_pair.ensures))

pub loop-pair-preserved : goal.loop-pair-preserved
loop-pair-preserved g c =
    let here = drop_is c.args.pairs.now c.loop-pair.pair-index c.pair-item.result c.loop-pair-test.true c.pair-item.is in
    let rest = flat_map (target_found (map tree_of c.args.elements.now)) (map setting (drop (c.loop-pair.pair-index + 1) c.args.pairs.now)) in
    continues_behind (target_found (map tree_of c.args.elements.now) (setting c.pair-item.result)) rest (flat_map (target_found (map tree_of c.args.elements.now)) (map setting c.args.pairs.now)) c.in_ok-examine_pair.ensures (rw here at c.loop-pair.invariant)

pub returns : goal.returns
returns g c =
    let none = drop_all c.loop-pair.pair-index c.args.pairs.now c.loop-pair-test.false in
    c.loop-pair.invariant (Ok tt) (rw none tt)
