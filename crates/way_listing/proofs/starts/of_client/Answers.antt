use Rattle.std.proofs.Common.{◌≡◌, ◌++◌, ◌∷◌, [], map, take, arith, ap, sym, ◌∙◌}
use Rattle.std.specs.Prelude.{string_bytes}
use Rattle.std.proofs.lemmas.List.{map_more, take_all}
use Rattle.way_listing.specs.Sendings.{IsSentUnder}
use Rattle.way_listing.proofs.Adding.{adds_none, adds_more}
use Rattle.way_listing.proofs.starts.of_client.Goals as goal

pub loop-tag-init : goal.loop-tag-init
loop-tag-init g c = adds_none (IsSentUnder c.args.client.now.patterns.items (record { host = c.args.host.now; port = c.args.client.now.port })) c.args.found.now.items

pub loop-tag-preserved : goal.loop-tag-preserved
loop-tag-preserved g c =
    let before = map string_bytes (take c.loop-tag.tag-index c.args.tags.now) in
    let tag = c.tag-item.result in
    let more = map_more string_bytes c.args.tags.now c.loop-tag.tag-index tag c.loop-tag-test.true ∙ ap (λ t. before ++ string_bytes t ∷ []) (sym c.tag-item.is) in
    rw more (adds_more (IsSentUnder c.args.client.now.patterns.items (record { host = c.args.host.now; port = c.args.client.now.port })) before (string_bytes tag) _ _ _ c.loop-tag.invariant (rw c.as_bytes.ensures.value at c.in_ok-of_tag.ensures))

pub returns : goal.returns
returns g c = rw (take_all c.loop-tag.tag-index c.args.tags.now (omega arith)) at c.loop-tag.invariant
