use Rattle.std.proofs.Common.{nat_le, refl, arith}
use Rattle.msgpack_bytes.proofs.Reaching.{bound_first, bound_end, bound_pop, bound_single, bound_scalar, bound_container}
use Rattle.msgpack_bytes.proofs.whole.items_end.Goals as goal

pub loop-left-init : goal.loop-left-init
loop-left-init c =
    let least = c.min-limit.ensures in
    let short = c.requires.short in
    let there = c.requires.there in
    bound_first _ _ _ _ _ refl c.requires.opens (omega arith) (omega arith) (omega arith)

pub returns-then-levels-eq0 : goal.returns-then-levels-eq0
returns-then-levels-eq0 c = bound_end c.loop-left.invariant (omega arith) (omega arith)

pub loop-left-preserved-then-left-eq0 : goal.loop-left-preserved-then-left-eq0
loop-left-preserved-then-left-eq0 c = bound_pop c.loop-left.invariant (omega arith) _ refl (omega arith)

pub loop-left-preserved-then-single : goal.loop-left-preserved-then-single
loop-left-preserved-then-single c = bound_single c.loop-left.invariant (omega arith) (c.if-single.ensures (nat_le c.loop-left.levels 64) refl)

pub loop-left-preserved-then-i-size : goal.loop-left-preserved-then-i-size
loop-left-preserved-then-i-size c = bound_scalar c.loop-left.invariant (omega arith) _ c.in-Scalar.ensures.is (omega arith)

pub loop-left-preserved : goal.loop-left-preserved
loop-left-preserved c = bound_container c.loop-left.invariant (omega arith) _ _ c.in-Container.ensures.is (omega arith) (omega arith)
