use Rattle.std.proofs.Common.{map, sym}
use Rattle.std.specs.Prelude.{string_bytes}
use Rattle.std.specs.Str.{bytes_eq}
use Rattle.conf_listing.specs.Printed.{is_among}
use Rattle.conf_listing.proofs.Accepting.{none_more_as, none_passes_as, one_passes_as}
use Rattle.conf_listing.proofs.adapted.is_named.Goals as goal

pub returns-then-eq : goal.returns-then-eq
returns-then-eq g c =
    one_passes_as string_bytes (λ one. bytes_eq one c.args.name.now) c.args.names.now c.loop-one.one-index c.one-item.result (is_among (map string_bytes c.args.names.now) c.args.name.now)
    c.loop-one-test.true c.one-item.is (sym (rw c.as_bytes.ensures.value at c.if-eq.ensures)) c.loop-one.invariant

pub loop-one-preserved : goal.loop-one-preserved
loop-one-preserved g c =
    none_more_as string_bytes (λ one. bytes_eq one c.args.name.now) c.args.names.now c.loop-one.one-index c.one-item.result (is_among (map string_bytes c.args.names.now) c.args.name.now)
    c.loop-one-test.true c.one-item.is (sym (rw c.as_bytes.ensures.value at c.if-eq.ensures)) c.loop-one.invariant

pub returns : goal.returns
returns g c =
    none_passes_as string_bytes (λ one. bytes_eq one c.args.name.now) c.args.names.now c.loop-one.one-index (is_among (map string_bytes c.args.names.now) c.args.name.now)
    c.loop-one-test.false c.loop-one.invariant
