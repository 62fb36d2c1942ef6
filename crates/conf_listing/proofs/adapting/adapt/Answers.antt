use Rattle.std.proofs.Common.{List, ◌++◌, ◌∙◌, ap, sym}
use Rattle.std.proofs.lemmas.List.{take_all}
use Rattle.conf_text.specs.Views.{tree_of}
use Rattle.conf_listing.specs.Items.{Item, items_in}
use Rattle.conf_listing.proofs.Accounting.{items_more}
use Rattle.conf_listing.proofs.adapting.adapt.Goals as goal

pub loop-element-preserved : goal.loop-element-preserved
loop-element-preserved g c =
    c.in_ok-put_element.ensures
    ∙ ap (λ (l : List Item). l ++ items_in (tree_of c.element-item.result)) c.loop-element.invariant
    ∙ sym (items_more c.args.elements.now c.loop-element.element-index c.element-item.result c.loop-element-test.true c.element-item.is)

pub returns : goal.returns
returns g c = rw (take_all c.loop-element.element-index c.args.elements.now c.loop-element-test.false) at c.loop-element.invariant
