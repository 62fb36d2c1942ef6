use Rattle.std.proofs.Common.{◌∙◌, ◌++◌, [], ◌∷◌, List, ap}
use Rattle.std.proofs.lemmas.List.{take_all, map_more, map-append}
use Rattle.tag_pattern.specs.Items.{Item, item_of}
use Rattle.route_graph.proofs.table.copied_plain.Goals as goal

pub loop-item-preserved : goal.loop-item-preserved
loop-item-preserved g c =
    let more = map_more (item_of {A = g.row.B.Denot}) c.items-items.result.now c.loop-item.item-index c.item-item.result c.loop-item-test.true in
    rw (c.in_ok-push.ensures.items, map-append, more, ← c.item-item.is, c.in_ok-copied_item.ensures) (ap (λ (items : List Item). items ++ item_of c.item-item.result ∷ []) c.loop-item.invariant)

pub returns : goal.returns
returns g c =
    let all = rw (take_all c.loop-item.item-index c.items-items.result.now c.loop-item-test.false) at c.loop-item.invariant in
    c.new.ensures ∙ (all ∙ c.items-items.ensures.items)
