use Rattle.std.proofs.Common.{◌≡◌, take}
use Rattle.step_lines.specs.Texts.{texts_of}
use Rattle.custody_store.specs.Book.{told_events, told_to}
use Rattle.custody_store.proofs.message.copy_told.Given as goal

abbrev pub invariant-loop-entry : goal.invariant-loop-entry
invariant-loop-entry g l = told_events l.events.items ≡ told_to l.client l.tag (texts_of (take l.entry-index l.entries))
