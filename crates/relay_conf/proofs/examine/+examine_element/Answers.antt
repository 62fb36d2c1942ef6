use Rattle.std.proofs.Common.{◌∙◌, ap, map, Ok, Err, drop, ◌+◌}
use Rattle.std.proofs.lemmas.Result.{err_from_is_err_and}
use Rattle.std.proofs.lemmas.List.{drop_all}
use Rattle.conf_text.specs.Trees.{trees}
use Rattle.conf_text.specs.Views.{tree_of}
use Rattle.relay_conf.specs.Sections.{profile_of}
use Rattle.relay_conf.specs.Examined.{tree_found, trees_found}
use Rattle.relay_conf.proofs.Drops.{drop_is}
use Rattle.relay_conf.proofs.Findings.{continues_behind, refuses_front}
use Rattle.relay_conf.proofs.Examining.{refused_in_front, refused_within, examined_last}
use Rattle.relay_conf.proofs.examine.+examine_element.Goals as goal

pub returns-in_err-section : goal.returns-in_err-section
returns-in_err-section g t c =
    let p = err_from_is_err_and c.from_residual.result c.from_residual.ensures.1 in
    let o = c.opening_in.ensures ∙ ap (profile_of c.args.parent).sections c.name_of.ensures in
    rw (p.1, p.2) (refused_in_front c.args.parent c.args.element.now c.opening_in.result _ o c.in_err-section.ensures.found)

pub loop-child-init : goal.loop-child-init
loop-child-init g t c = λ r h. h

pub loop-child-preserved : goal.loop-child-preserved
loop-child-preserved g t c =
    let kids = c.deref-child-items.result.now in
    let here = drop_is kids c.loop-child.child-index c.child-item.result c.loop-child-test.true c.child-item.is in
    continues_behind (tree_found c.in_ok-section.section (tree_of c.child-item.result)) (trees_found c.in_ok-section.section (trees (map tree_of (drop (c.loop-child.child-index + 1) kids)))) (trees_found c.in_ok-section.section (trees (map tree_of kids))) c.in_ok-examine_element.ensures (rw here at c.loop-child.invariant)

pub returns-in_err-examine_element : goal.returns-in_err-examine_element
returns-in_err-examine_element g t c =
    let p = err_from_is_err_and c.from_residual-in_err-examine_element.result c.from_residual-in_err-examine_element.ensures.1 in
    let o = c.opening_in.ensures ∙ ap (profile_of c.args.parent).sections c.name_of.ensures in
    let kids = c.deref-child-items.result.now in
    let here = drop_is kids c.loop-child.child-index c.child-item.result c.loop-child-test.true c.child-item.is in
    let within = (rw here at c.loop-child.invariant) (Err c.in_err-examine_element.field-0.0) (refuses_front (tree_found c.in_ok-section.section (tree_of c.child-item.result)) (trees_found c.in_ok-section.section (trees (map tree_of (drop (c.loop-child.child-index + 1) kids)))) _ c.in_err-examine_element.ensures) in
    rw (p.1, p.2) (refused_within c.args.parent c.args.element.now c.opening_in.result c.in_ok-section.section kids _ o c.in_ok-section.ensures.section c.deref-child-items.ensures.value c.in_ok-section.ensures.found within)

pub returns : goal.returns
returns g t c =
    let o = c.opening_in.ensures ∙ ap (profile_of c.args.parent).sections c.name_of.ensures in
    let kids = c.deref-child-items.result.now in
    let none = drop_all c.loop-child.child-index kids c.loop-child-test.false in
    let within = c.loop-child.invariant (Ok tt) (rw none tt) in
    let missing = rw (c.section_lacks.ensures, c.pairs_of.ensures, c.children_of.ensures, c.line_of.ensures) at c.fault_if.ensures in
    examined_last c.args.parent c.args.element.now c.opening_in.result c.in_ok-section.section kids c.fault_if.result o c.in_ok-section.ensures.section c.deref-child-items.ensures.value c.in_ok-section.ensures.found within missing
