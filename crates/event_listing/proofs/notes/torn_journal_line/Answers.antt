use Rattle.std.proofs.Common.{append_assoc}
use Rattle.event_listing.proofs.notes.torn_journal_line.Goals as goal

pub returns : goal.returns
returns g c = simp append_assoc c.format.ensures.ok
