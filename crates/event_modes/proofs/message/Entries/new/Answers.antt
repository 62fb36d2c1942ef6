use Rattle.event_modes.proofs.Stored.{none_stored}
use Rattle.event_modes.proofs.Counted.{no_items}
use Rattle.event_modes.proofs.message.Entries.new.Goals as goal

pub invariant_of-result : goal.invariant_of-result
invariant_of-result g c = none_stored c.new.result.items c.new.ensures.items

pub returns : goal.returns
returns g c = no_items c.new.result.items
