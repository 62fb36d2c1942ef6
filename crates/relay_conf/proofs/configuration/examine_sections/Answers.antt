use Rattle.std.proofs.Common.{◌+◌, map, drop, Err}
use Rattle.std.proofs.lemmas.Result.{err_from_is_err_and}
use Rattle.conf_text.specs.Trees.{trees}
use Rattle.conf_text.specs.Views.{tree_of}
use Rattle.relay_conf.specs.declared.section.Section.TheVariants as sections
use Rattle.relay_conf.specs.Examined.{tree_found, trees_found}
use Rattle.relay_conf.proofs.Drops.{drop_is}
use Rattle.relay_conf.proofs.Findings.{continues_behind, refuses_front}
use Rattle.relay_conf.proofs.configuration.examine_sections.Goals as goal

pub returns-in_err-examine_element : goal.returns-in_err-examine_element
returns-in_err-examine_element g c =
    let p = err_from_is_err_and c.from_residual.result c.from_residual.ensures.1 in
    let xs = c.args.elements.now in
    let here = drop_is xs c.loop-element.element-index c.element-item.result c.loop-element-test.true c.element-item.is in
    rw (p.1, p.2) ((rw here at c.loop-element.invariant) (Err c.in_err-examine_element.field-0.0) (refuses_front (tree_found sections.Top (tree_of c.element-item.result)) (trees_found sections.Top (trees (map tree_of (drop (c.loop-element.element-index + 1) xs)))) _ c.in_err-examine_element.ensures))

pub loop-element-preserved : goal.loop-element-preserved
loop-element-preserved g c =
    let xs = c.args.elements.now in
    let here = drop_is xs c.loop-element.element-index c.element-item.result c.loop-element-test.true c.element-item.is in
    continues_behind (tree_found sections.Top (tree_of c.element-item.result)) (trees_found sections.Top (trees (map tree_of (drop (c.loop-element.element-index + 1) xs)))) (trees_found sections.Top (trees (map tree_of xs))) c.in_ok-examine_element.ensures (rw here at c.loop-element.invariant)
