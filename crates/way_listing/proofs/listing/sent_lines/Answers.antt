use Rattle.std.proofs.Common.{◌≡◌, ◌++◌, arith, rules}
use Rattle.std.proofs.lemmas.List.{take_all}
use Rattle.program_text.proofs.ListingSteps.{listed_more}
use Rattle.way_listing.specs.Lines.{IsSentLine}
use Rattle.way_listing.proofs.listing.sent_lines.Goals as goal

pub loop-one-preserved : goal.loop-one-preserved
loop-one-preserved g c =
    let more : c.extend_from_slice.new.self.items ≡ c.loop-one.lines.items ++ c.in_ok-line.line.items = search rules in
    listed_more (IsSentLine c.args.plan.now) c.args.sent.now c.loop-one.one-index c.one-item.result c.loop-one.lines.items c.in_ok-line.line.items c.extend_from_slice.new.self.items
    c.loop-one.invariant (omega arith) c.one-item.is c.in_ok-line.ensures more

pub returns : goal.returns
returns g c = rw (take_all c.loop-one.one-index c.args.sent.now c.loop-one-test.false) at c.loop-one.invariant
