use Rattle.event_modes.specs.Entry.{stored_entry}
use Rattle.event_modes.proofs.Collected.{entry_stored}
use Rattle.event_modes.proofs.entries.add.Goals as goal

pub push-requires : goal.push-requires
push-requires g c = entry_stored c.args.entry.now (stored_entry c.in_ok-event.event.time.now c.in_ok-event.event.fields.now) c.requires c.in_ok-event.ensures
