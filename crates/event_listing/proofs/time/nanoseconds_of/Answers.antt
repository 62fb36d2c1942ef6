use Rattle.std.proofs.Common.{ℤ, pos, ◌*ℤ◌, ◌≡◌, FitsSigned, subst, sym, ap, ◌∙◌}
use Rattle.std.specs.Int.{w128}
use Rattle.std.proofs.lemmas.Int.{to_z-of_z}
use Rattle.event_listing.specs.Events.{event_nanos, second, OfSeconds, OfEventTime}
use Rattle.event_listing.proofs.Integers.{int_same, nanos_fit}
use Rattle.event_listing.proofs.time.nanoseconds_of.Goals as goal

pub returns-in-Seconds : goal.returns-in-Seconds
returns-in-Seconds c =
    let is = c.in-Seconds.ensures in
    let same = int_same c.args.time.now c.in-Seconds.seconds c.type_inv.time is in
    let value : c.whole_nanoseconds.result ≡ c.in-Seconds.seconds *ℤ pos second = c.whole_nanoseconds.ensures ∙ ap (λ (z : ℤ). z *ℤ pos second) same in
    let fits = subst (FitsSigned w128) (sym value) (nanos_fit c.args.time.now c.in-Seconds.seconds c.type_inv.time is) in
    OfSeconds c.in-Seconds.seconds is (to_z-of_z w128 c.whole_nanoseconds.result fits ∙ value)

pub returns-in-Event : goal.returns-in-Event
returns-in-Event c =
    let found = c.in-Event.ensures in
    let fits : FitsSigned w128 c.event_nanoseconds.result = record { sfits = c.event_nanoseconds.type_inv } in
    OfEventTime found.0 (to_z-of_z w128 c.event_nanoseconds.result fits ∙ c.event_nanoseconds.ensures ∙ ap event_nanos (sym found.1))
