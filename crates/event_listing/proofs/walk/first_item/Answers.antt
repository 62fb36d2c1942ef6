use Rattle.event_modes.proofs.Counted.{some_items, take_one}
use Rattle.event_listing.proofs.walk.first_item.Goals as goal

pub unreachable-requires : goal.unreachable-requires
unreachable-requires c = let b = some_items c.args.count c.args.bytes.now c.requires.some c.requires.items in c.in-None.ensures.only b.front b.back b.is b.whole

pub returns-clause-first : goal.returns-clause-first
returns-clause-first c =
    (take_one c.args.count c.args.bytes.now c.in-Some.item.now c.in-Some.rest.now c.requires.some c.requires.items c.in-Some.ensures.right.0 c.in-Some.ensures.right.1).first

pub returns-clause-left : goal.returns-clause-left
returns-clause-left c =
    (take_one c.args.count c.args.bytes.now c.in-Some.item.now c.in-Some.rest.now c.requires.some c.requires.items c.in-Some.ensures.right.0 c.in-Some.ensures.right.1).left
