use Rattle.std.proofs.Common.{List, ℕ, subst, sym, to_z, of_z}
use Rattle.std.specs.Int.{w128}
use Rattle.event_listing.specs.Events.{IsEventTimeJson, IsSecondsJson, IsTimeJson, Nanoseconds, Seconds}
use Rattle.event_listing.proofs.Integers.{int_kept}
use Rattle.event_listing.proofs.Steps.{adds_as}
use Rattle.event_listing.proofs.time.put_time.Goals as goal

pub returns-in-Event : goal.returns-in-Event
returns-in-Event g c =
    let found = c.in-Event.ensures in
    adds_as c.put_event_time.result (IsEventTimeJson c.in-Event.content.now) (IsTimeJson c.args.time.now) c.args.writer.now c.put_event_time.new.writer
    (λ ts is. Nanoseconds found.0 (subst (λ (z : List ℕ). IsEventTimeJson z ts) (sym found.1) is)) c.put_event_time.ensures

pub returns-in-Seconds : goal.returns-in-Seconds
returns-in-Seconds g c =
    let value = to_z w128 (of_z w128 c.in-Seconds.seconds) in
    let is = int_kept c.args.time.now c.in-Seconds.seconds c.type_inv.time c.in-Seconds.ensures in
    adds_as c.put_seconds.result (IsSecondsJson value) (IsTimeJson c.args.time.now) c.args.writer.now c.put_seconds.new.writer
    (λ ts seconds. Seconds value is seconds) c.put_seconds.ensures
