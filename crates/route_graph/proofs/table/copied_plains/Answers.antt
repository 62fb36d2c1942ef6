use Rattle.std.proofs.Common.{◌∙◌, ◌++◌, [], ◌∷◌, List, ap}
use Rattle.std.proofs.lemmas.List.{take_all, take_more}
use Rattle.tag_pattern.specs.Items.{Item}
use Rattle.route_graph.proofs.table.copied_plains.Goals as goal

pub loop-plain-preserved : goal.loop-plain-preserved
loop-plain-preserved g c =
    let more = take_more c.args.plains.now c.loop-plain.plain-index c.plain-item.result c.loop-plain-test.true in
    rw (c.in_ok-push.ensures.items, more, ← c.plain-item.is, c.in_ok-copied_plain.ensures) (ap (λ (plains : List (List Item)). plains ++ c.plain-item.result ∷ []) c.loop-plain.invariant)

pub returns : goal.returns
returns g c = c.loop-plain.invariant ∙ take_all c.loop-plain.plain-index c.args.plains.now c.loop-plain-test.false
