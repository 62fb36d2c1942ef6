use Rattle.std.proofs.Common.{ℕ, ℤ, pos, ◌≡◌, ◌*ℤ◌, List, FitsSigned, w64, to_z, of_z, ap, subst, ◌∙◌, arith}
use Rattle.std.proofs.lemmas.Int.{to_z-of_z}
use Rattle.jiff_core.proofs.SignedLemmas.{signed_arith}
use Rattle.event_listing.specs.Events.{IsDated, IsInstant, IsSecondsJson, Dated}
use Rattle.event_listing.specs.Walking.{IsStringOf}
use Rattle.event_listing.proofs.Steps.{adds_as}
use Rattle.event_listing.proofs.time.put_seconds.Goals as goal

pub returns : goal.returns
returns g c =
    let dated : IsDated c.args.seconds = record { first = omega (arith, signed_arith); last = omega (arith, signed_arith) } in
    let small : FitsSigned w64 c.args.seconds = omega (arith, signed_arith) in
    let nanos : c.in-Ok.instant.nanosecond ≡ c.args.seconds *ℤ pos 1000000000 =
    c.in-Ok.ensures.value ∙ ap (λ (z : ℤ). to_z w64 (of_z w64 z) *ℤ pos 1000000000) (to_z-of_z _ c.args.seconds c.ranges.seconds)
    ∙ ap (λ (z : ℤ). z *ℤ pos 1000000000) (to_z-of_z w64 c.args.seconds small) in
    adds_as c.put_instant.result (IsStringOf (IsInstant 0 c.in-Ok.instant.nanosecond)) (IsSecondsJson c.args.seconds) c.args.writer.now c.put_instant.new.writer
    (λ ts i. Dated i.text dated (subst (λ (z : ℤ). IsInstant 0 z i.text) nanos i.is) i.whole) c.put_instant.ensures
