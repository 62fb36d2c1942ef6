use Rattle.std.proofs.Common.{◌≡◌, take}
use Rattle.custody_store.specs.Contents.{stored_events}
use Rattle.step_lines.specs.Texts.{texts_of}
use Rattle.custody_store.specs.Buffers.{events_of}
use Rattle.custody_store.proofs.event.copy_events.Given as goal

abbrev pub invariant-loop-text : goal.invariant-loop-text
invariant-loop-text g l = stored_events l.events.items ≡ events_of l.tag (texts_of (take l.text-index l.texts))
