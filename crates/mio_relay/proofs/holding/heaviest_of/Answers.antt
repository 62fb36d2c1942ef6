use Rattle.std.proofs.Common.{ℕ, arith, subst, sym}
use Rattle.mio_relay.proofs.Heaviest.{HoldsSo, as_much, at_most_more, holds_most, holds_so, no_more, so_much}
use Rattle.mio_relay.proofs.holding.heaviest_of.Goals.{then-most-held, else-most-held}
use Rattle.mio_relay.proofs.holding.heaviest_of.Goals as goal

pub loop-key-preserved : goal.loop-key-preserved
loop-key-preserved g c =
    let slots = c.args.slots.now in
    let was = c.loop-key.invariant in
    let held = c.held_at-held.result in
    let slot = c.index-slots-key.result in
    elim c.if-most-held.branch [
      | then-most-held w ↦ record {
        below = at_most_more slots c.loop-key.key c.loop-key.most c.if-most-held.most held slot c.index-slots-key.is c.loop-key-test.true c.held_at-held.ensures
            (so_much c.loop-key.most held c.if-most-held.most w.most-is (omega (arith, w.if-most-held))) (as_much held c.if-most-held.most w.most-is) was.below;
        so = subst (λ (m : ℕ). HoldsSo m c.if-most-held.heaviest slots) (sym w.most-is)
            (subst (λ (k : ℕ). HoldsSo held k slots) (sym w.heaviest-is) (holds_so slots c.loop-key.key held slot c.index-slots-key.is c.loop-key-test.true c.held_at-held.ensures));
      }
      | else-most-held w ↦ record {
        below = at_most_more slots c.loop-key.key c.loop-key.most c.if-most-held.most held slot c.index-slots-key.is c.loop-key-test.true c.held_at-held.ensures
            (as_much c.loop-key.most c.if-most-held.most w.most-is) (no_more c.loop-key.most held c.if-most-held.most w.most-is (omega (arith, w.if-most-held))) was.below;
        so = subst (λ (m : ℕ). HoldsSo m c.if-most-held.heaviest slots) (sym w.most-is)
            (subst (λ (k : ℕ). HoldsSo c.loop-key.most k slots) (sym w.heaviest-is) was.so);
      }
    ]

pub returns : goal.returns
returns g c =
    holds_most c.args.slots.now c.loop-key.heaviest c.loop-key.most c.loop-key.key c.loop-key-test.false c.loop-key.invariant.below c.loop-key.invariant.so
