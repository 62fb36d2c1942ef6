use Rattle.std.proofs.Common.{List, ◌∷◌, ◌++◌, ◌∙◌, ap, map, sym, take}
use Rattle.std.proofs.lemmas.Result.{on_ok_weaker}
use Rattle.conf_text.specs.Trees.{trees}
use Rattle.conf_text.specs.Views.{tree_of}
use Rattle.relay_conf.specs.Elements.{heading_of, settings_of}
use Rattle.conf_listing.specs.Items.{Item, all_stand_for, items_in, items_of, parameter_item, section_item}
use Rattle.conf_listing.proofs.Accounting.{all_items, items_more, put_behind}
use Rattle.conf_listing.proofs.adapting.Adapting.+put_element.Goals as goal

pub loop-child-preserved : goal.loop-child-preserved
loop-child-preserved g t c =
    let e = tree_of c.args.element.now in
    let old = all_stand_for c.args.self.now.entries.items in
    let kids = c.deref-child-items.result.now in
    let i = c.loop-child.child-index in
    let settings = map parameter_item (settings_of e) in
    c.in_ok-put_element.ensures
    ∙ ap (λ (l : List Item). l ++ items_in (tree_of c.child-item.result)) c.loop-child.invariant
    ∙ put_behind old (section_item (heading_of e)) settings (items_of (trees (map tree_of (take i kids)))) (items_in (tree_of c.child-item.result))
    ∙ ap (λ (l : List Item). old ++ (section_item (heading_of e) ∷ (settings ++ l))) (sym (items_more kids i c.child-item.result c.loop-child-test.true c.child-item.is))

pub returns : goal.returns
returns g t c =
    let old = all_stand_for c.args.self.now.entries.items in
    on_ok_weaker c.close.result
    (λ closed. closed ∙ c.loop-child.invariant
    ∙ ap (λ (l : List Item). old ++ l) (all_items c.args.element.now c.deref-child-items.result.now c.loop-child.child-index c.deref-child-items.ensures.value c.loop-child-test.false))
    c.close.ensures
