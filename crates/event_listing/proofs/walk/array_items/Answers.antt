use Rattle.event_modes.proofs.Counted.{array_found}
use Rattle.event_listing.proofs.walk.array_items.Goals as goal

pub returns-clause-items : goal.returns-clause-items
returns-clause-items c = (array_found c.args.item.now c.split_at.result.1.now c.args.count c.args.next c.requires.item c.requires.head c.split_at.ensures.back).0

pub returns-clause-array : goal.returns-clause-array
returns-clause-array c = (array_found c.args.item.now c.split_at.result.1.now c.args.count c.args.next c.requires.item c.requires.head c.split_at.ensures.back).1
