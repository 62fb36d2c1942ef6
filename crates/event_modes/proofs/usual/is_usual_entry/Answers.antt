use Rattle.event_modes.proofs.Again.{some_byte}
use Rattle.event_modes.proofs.Alone.{begins_as, entry_is_stored}
use Rattle.event_modes.proofs.usual.is_usual_entry.Goals as goal

pub bounds-entry-0 : goal.bounds-entry-0
bounds-entry-0 c = some_byte c.args.entry.now c.requires

pub returns : goal.returns
returns c = λ t.
    entry_is_stored c.args.entry.now c.split_at.result.1.now c.requires
    (begins_as c.args.entry.now c.split_at.result.1.now 0x92 (some_byte c.args.entry.now c.requires) c.if-entry.false c.split_at.ensures.back) (c.begins_event.ensures t)
