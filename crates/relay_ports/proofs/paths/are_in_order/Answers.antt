use Rattle.std.proofs.Common.{refl}
use Rattle.std.proofs.lemmas.Bool.{false≢true}
use Rattle.relay_ports.proofs.Ordering.{in_order_more, in_order_all, in_order_here}
use Rattle.relay_ports.proofs.paths.are_in_order.Goals as goal

pub returns-then-not-is_at : goal.returns-then-not-is_at
returns-then-not-is_at g c = (
  (λ t. absurd (false≢true t)),
  (λ h. absurd (false≢true (cc (
    c.if-not-is_at.true,
    c.is_at.ensures.1 (in_order_here c.args.outputs.now c.loop-place.place c.index-outputs-place.result c.loop-place-test.true c.index-outputs-place.is h),
  )))),
)

pub loop-place-preserved : goal.loop-place-preserved
loop-place-preserved g c =
    in_order_more c.args.outputs.now c.loop-place.place c.index-outputs-place.result c.loop-place-test.true c.index-outputs-place.is
    (c.is_at.ensures.0 c.if-not-is_at.false) c.loop-place.invariant

pub returns : goal.returns
returns g c = ((λ t. in_order_all c.args.outputs.now c.loop-place.place c.loop-place-test.false c.loop-place.invariant), (λ h. refl))
