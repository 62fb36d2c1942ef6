use Rattle.std.proofs.Common.{ℕ, ℤ, pos, ◌+ℤ◌, ◌*ℤ◌, ◌≡◌, ◌<◌, List, take, drop, FitsSigned, to_z, ap, subst, ◌∙◌, arith}
use Rattle.std.specs.Int.{w32, w64, from_be_bytes}
use Rattle.std.proofs.lemmas.Int.{to_z-of_z, to_z_pos}
use Rattle.event_listing.specs.Events.{event_nanos, second, IsEventTimeJson, IsInstant, Sound}
use Rattle.event_listing.specs.Walking.{IsStringOf}
use Rattle.event_listing.proofs.Steps.{adds_as}
use Rattle.event_listing.proofs.time.put_event_time.Goals as goal

pub returns : goal.returns
returns g c =
    let content = c.args.content.now in
    let seconds : c.number_of-seconds.result ≡ from_be_bytes w32 (take 4 content) = c.number_of-seconds.ensures ∙ ap (λ (z : List ℕ). from_be_bytes w32 z) c.split_at-parts.ensures.front in
    let nanos : c.number_of-nanoseconds.result ≡ from_be_bytes w32 (drop 4 content) = c.number_of-nanoseconds.ensures ∙ ap (λ (z : List ℕ). from_be_bytes w32 z) c.split_at-parts.ensures.back in
    let few : c.number_of-nanoseconds.result < second = omega (arith, c.if-nanoseconds-ge-SECOND.false) in
    let small : from_be_bytes w32 (drop 4 content) < second = subst (λ (n : ℕ). n < second) nanos few in
    let fits : FitsSigned w64 c.from.result = record { sfits = c.from.type_inv } in
    let whole = to_z-of_z w64 c.from.result fits ∙ c.from.ensures ∙ ap pos seconds in
    let part = to_z_pos w32 c.number_of-nanoseconds.result (omega (arith, few)) ∙ ap pos nanos in
    let value : c.in-Ok.instant.nanosecond ≡ event_nanos content =
    c.in-Ok.ensures.value ∙ ap (λ (z : ℤ). z *ℤ pos 1000000000 +ℤ to_z w32 c.number_of-nanoseconds.result) whole
    ∙ ap (λ (z : ℤ). pos (from_be_bytes w32 (take 4 content)) *ℤ pos 1000000000 +ℤ z) part in
    adds_as c.put_instant.result (IsStringOf (IsInstant 9 c.in-Ok.instant.nanosecond)) (IsEventTimeJson content) c.args.writer.now c.put_instant.new.writer
    (λ ts i. Sound i.text small (subst (λ (z : ℤ). IsInstant 9 z i.text) value i.is) i.whole) c.put_instant.ensures
