use Rattle.std.proofs.Common.{◌≡◌, take}
use Rattle.step_lines.specs.Texts.{texts_of}
use Rattle.custody_store.specs.Tags.{Covers, OfOne}
use Rattle.custody_store.proofs.tags.add_event_tags.Given as goal

abbrev pub invariant-loop-event : goal.invariant-loop-event
invariant-loop-event g l = Covers (OfOne (λ event t. event.tag.items ≡ t) (take l.event-index l.events)) (texts_of l.fn.tags.items) (texts_of l.tags.items)
