use Rattle.std.proofs.Common.{List, Option, subst}
use Rattle.std.proofs.lemmas.List.{take_all}
use Rattle.mio_relay.specs.Connections.{ConnectionState}
use Rattle.mio_relay.proofs.Heaviest.{Counts, counts_more, counts_none, no_more_than}
use Rattle.mio_relay.proofs.holding.held_in.Goals as goal

pub loop-slot-init : goal.loop-slot-init
loop-slot-init g c = counts_none c.args.slots.now

pub loop-slot-preserved : goal.loop-slot-preserved
loop-slot-preserved g c =
    counts_more c.args.slots.now c.loop-slot.slot-index c.slot-item.result c.loop-slot.sum c.held_at.result c.with_more-sum.result c.loop-slot-test.true c.slot-item.is c.held_at.ensures
    c.with_more-sum.ensures c.loop-slot.invariant

pub returns : goal.returns
returns g c =
    λ within.
    let all =
    subst (λ (l : List (Option ConnectionState)). Counts c.loop-slot.sum l) (take_all c.loop-slot.slot-index c.args.slots.now c.loop-slot-test.false) c.loop-slot.invariant within in
    no_more_than c.loop-slot.sum all within
