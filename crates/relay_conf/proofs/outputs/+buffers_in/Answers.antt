use Rattle.std.proofs.Common.{◌∙◌, sym, arith}
use Rattle.std.proofs.lemmas.List.{drop_all}
use Rattle.relay_conf.proofs.Counting.{buffers_are, counted_on}
use Rattle.relay_conf.proofs.Drops.{drop_is}
use Rattle.relay_conf.proofs.outputs.+buffers_in.Goals as goal

pub returns : goal.returns
returns g t c =
    let whole = rw (← c.deref-child-items.ensures.value, ← c.own_buffers-count.ensures) at (buffers_are c.args.element.now (sym c.is_named.ensures ∙ c.if-is_named.false)) in
    let none = drop_all c.loop-child.child-index c.deref-child-items.result.now c.loop-child-test.false in
    let so_far = rw none at c.loop-child.invariant in
    rw whole (omega (arith, so_far))

pub loop-child-preserved : goal.loop-child-preserved
loop-child-preserved g t c =
    let here = drop_is c.deref-child-items.result.now c.loop-child.child-index c.child-item.result c.loop-child-test.true c.child-item.is in
    counted_on c.deref-child-items.result.now c.loop-child.child-index c.child-item.result c.loop-child.count c.in_ok-buffers_in.field-0 c.in_ok-count.count _ here
    c.in_ok-buffers_in.ensures c.in_ok-count.ensures c.loop-child.invariant
