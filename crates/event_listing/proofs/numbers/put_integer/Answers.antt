use Rattle.std.proofs.Common.{ℤ, FitsSigned, w64, sym, subst}
use Rattle.std.specs.Int.{FitsUnsigned}
use Rattle.std.proofs.lemmas.Int.{to_z-of_z}
use Rattle.event_listing.proofs.Integers.{integer_fits}
use Rattle.event_listing.proofs.numbers.put_integer.Goals as goal

pub unreachable-requires : goal.unreachable-requires
unreachable-requires g c =
    let z = to_z-of_z _ c.args.value c.ranges.value in
    integer_fits c.args.item.now c.args.value c.type_inv.item c.requires
    (λ f. c.in_default.ensures (subst (λ (y : ℤ). FitsSigned w64 y) (sym z) f), λ f. c.in-Err.ensures (subst (λ (y : ℤ). FitsUnsigned w64 y) (sym z) f))
