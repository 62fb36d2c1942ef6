use Rattle.std.proofs.Common.{ap, refl, ℤ}
use Rattle.jiff_core.specs.declared.timestamp.Timestamp.{Timestamp}
use Rattle.json.specs.Token.{string}
use Rattle.event_listing.specs.Events.{IsInstant}
use Rattle.event_listing.specs.Walking.{IsStringOf}
use Rattle.event_listing.proofs.Instants.{instant_text}
use Rattle.event_listing.proofs.Steps.{adds_one}
use Rattle.event_listing.proofs.time.put_instant.Goals as goal

pub returns : goal.returns
returns g c =
    let is = instant_text c.new.result c.precision-printer.result c.to_plain.result c.args.places c.args.instant.nanosecond c.timestamp_text-text.result.bytes c.as_str.result.now
    c.new.ensures c.precision-printer.ensures (ap (λ (t : Timestamp). t.nanosecond) c.to_plain.ensures) c.as_str.ensures.value c.timestamp_text-text.ensures in
    adds_one c.string.result (IsStringOf (IsInstant c.args.places c.args.instant.nanosecond)) (string c.as_str.result.now) c.args.writer.now c.string.new.self
    (record { text = c.as_str.result.now; is = is; whole = refl }) c.string.ensures.ok c.string.ensures.room.0
