use Rattle.std.proofs.Common.{◌≡◌, ◌<◌, ℕ, get_or}
use Rattle.custody_store.specs.Contents.{event_of}
use Rattle.custody_store.specs.declared.event.Event.{Event}
use Rattle.custody_store.proofs.event.has_event.Given as goal

abbrev pub invariant-loop-event : goal.invariant-loop-event
invariant-loop-event g l = (k : ℕ) (x : Event g.row.A.Denot) → k < l.event-index → get_or l.events k x ≡ x → event_of x ≡ record { tag = l.tag; entry = l.entry } → ⊥
