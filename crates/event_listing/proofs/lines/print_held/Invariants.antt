use Rattle.std.proofs.Common.{length}
use Rattle.event_listing.specs.Forms.{form_of}
use Rattle.event_listing.proofs.Held.{HeldOn}
use Rattle.event_listing.proofs.lines.print_held.Given as goal

abbrev pub invariant-events : goal.invariant-events
invariant-events g l = HeldOn (form_of l.form) l.choice l.bytes l.rest l.lines.items

abbrev pub decreases-events : goal.decreases-events
decreases-events g l = length l.rest
