use Rattle.std.proofs.Common.{refl}
use Rattle.event_modes.proofs.Again.{some_byte}
use Rattle.event_modes.proofs.Alone.{begins_as, one_event_is}
use Rattle.event_modes.proofs.usual.usual_of.Goals as goal

pub bounds-item-0 : goal.bounds-item-0
bounds-item-0 c = some_byte c.args.item.now c.requires

pub returns-then-begins_event : goal.returns-then-begins_event
returns-then-begins_event c =
    one_event_is c.args.item.now c.in_ok-tag.tag.now c.in_ok-tag.event.now c.split_at.result.1.now c.requires
    (begins_as c.args.item.now c.split_at.result.1.now 0x93 (some_byte c.args.item.now c.requires) c.if-item.false c.split_at.ensures.back) c.in_ok-tag.ensures (c.if-begins_event.ensures refl)
