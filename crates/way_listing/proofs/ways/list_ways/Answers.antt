use Rattle.std.proofs.Common.{◌≡◌, ◌++◌, get_or, map, subst, arith, rules}
use Rattle.std.specs.Prelude.{string_bytes}
use Rattle.program_text.proofs.ListingSteps.{listed_more}
use Rattle.way_listing.specs.Ways.{AreWaysFrom}
use Rattle.way_listing.proofs.ways.list_ways.Goals as goal

pub loop-source-preserved : goal.loop-source-preserved
loop-source-preserved g c =
    let source = c.source-item.result in
    let more : c.extend_from_slice.new.self.items ≡ c.loop-source.lines.items ++ c.in_ok-listed.listed.items = search rules in
    listed_more (AreWaysFrom c.args.relay.now (map string_bytes c.args.tags.now)) c.args.relay.now.sources.items c.loop-source.source-index source c.loop-source.lines.items c.in_ok-listed.listed.items c.extend_from_slice.new.self.items
    c.loop-source.invariant (omega arith) (subst (λ sources. source ≡ get_or sources c.loop-source.source-index source) c.deref-source-items.ensures.value c.source-item.is) c.in_ok-listed.ensures more
