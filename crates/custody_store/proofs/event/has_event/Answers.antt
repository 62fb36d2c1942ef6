use Rattle.std.proofs.Common.{refl, arith}
use Rattle.std.proofs.lemmas.Bool.{false≢true}
use Rattle.custody_store.specs.Contents.{event_of}
use Rattle.custody_store.proofs.Members.{contains_shown, shown_contains}
use Rattle.custody_store.proofs.event.has_event.Goals as goal

pub returns-then-is_event : goal.returns-then-is_event
returns-then-is_event g c =
    (λ _. contains_shown event_of c.args.events.now c.loop-event.event-index c.event-item.result _ c.loop-event-test.true c.event-item.is (c.is_event.ensures.0 c.if-is_event.true), λ _. refl)

pub returns : goal.returns
returns g c = (
  λ t. absurd (false≢true t),
  λ m. let w = shown_contains event_of c.args.events.now (record { tag = c.args.tag.now; entry = c.args.entry.now }) m in absurd (c.loop-event.invariant w.0 w.1 (omega arith) w.3 w.4),
)
