use Rattle.std.proofs.Common.{List, subst, sym}
use Rattle.msgpack_bytes.specs.Containers.{Pair, IsMap}
use Rattle.event_modes.proofs.Counted.{map_found}
use Rattle.event_listing.proofs.Members.{map_pairs_are}
use Rattle.event_listing.proofs.walk.map_pairs.Goals as goal

pub returns-clause-items : goal.returns-clause-items
returns-clause-items c = (map_found c.args.item.now c.split_at.result.1.now c.args.count c.args.next c.requires.item c.requires.head c.split_at.ensures.back).0

pub returns-clause-map : goal.returns-clause-map
returns-clause-map c =
    let found = (map_found c.args.item.now c.split_at.result.1.now c.args.count c.args.next c.requires.item c.requires.head c.split_at.ensures.back).1 in
    map_pairs_are c.args.item.now c.split_at.result.1.now c.args.count found.0 found.1 found.2
