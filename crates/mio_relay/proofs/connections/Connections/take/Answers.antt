use Rattle.std.proofs.Common.{arith, refl, sym, subst}
use Rattle.mio_relay.specs.Connections.{AreFlushed, AreInTimeBelow, AreServed, AreSettled, HoldsInTime}
use Rattle.mio_relay.proofs.Slots.{flushed_at, holds_at, holds_past, kept_at, no_not_yes, rests_at}
use Rattle.mio_relay.proofs.Turning.{lose_at, lose_none}
use Rattle.mio_relay.proofs.connections.Connections.take.Goals as goal

pub returns-then-is_some-clause-goes : goal.returns-then-is_some-clause-goes
returns-then-is_some-clause-goes g c =
    λ sources all.
    kept_at c.self.inside.slots.items c.args.key c.in-Some.slot.now c.take_slot-taken.new.slot (omega (arith, c.in-Some.ensures.variant.0 refl, c.self.inside.slots.ok.0))
    c.in-Some.ensures.value c.take_slot-taken.ensures.goes sources (subst (AreServed sources) (sym c.self.view_is) all)

pub returns-then-is_some-clause-settled : goal.returns-then-is_some-clause-settled
returns-then-is_some-clause-settled g c =
    λ all.
    rests_at c.self.inside.slots.items c.args.key c.in-Some.slot.now c.take_slot-taken.new.slot (omega (arith, c.in-Some.ensures.variant.0 refl, c.self.inside.slots.ok.0))
    c.in-Some.ensures.value c.take_slot-taken.ensures.settled (subst AreSettled (sym c.self.view_is) all)

pub returns-then-is_some-clause-flushed : goal.returns-then-is_some-clause-flushed
returns-then-is_some-clause-flushed g c =
    λ all.
    flushed_at c.self.inside.slots.items c.args.key c.in-Some.slot.now c.take_slot-taken.new.slot (omega (arith, c.in-Some.ensures.variant.0 refl, c.self.inside.slots.ok.0))
    c.in-Some.ensures.value c.take_slot-taken.ensures.flushed (subst AreFlushed (sym c.self.view_is) all)

pub returns-in_default-clause-in_time : goal.returns-in_default-clause-in_time
returns-in_default-clause-in_time g c =
    λ below.
    holds_past (HoldsInTime c.args.time) c.self.inside.slots.items c.args.key _ c.self.inside.slots.ok.0 (λ lt. no_not_yes (c.in_default.ensures.variant.1 lt))
    (subst (AreInTimeBelow c.args.time c.args.key) (sym c.self.view_is) below)

pub returns-then-is_some-clause-in_time : goal.returns-then-is_some-clause-in_time
returns-then-is_some-clause-in_time g c =
    λ below.
    holds_at (HoldsInTime c.args.time) c.self.inside.slots.items c.args.key c.take_slot-taken.new.slot c.take_slot-taken.ensures.in_time
    (subst (AreInTimeBelow c.args.time c.args.key) (sym c.self.view_is) below)

pub returns-in_default-clause-loses : goal.returns-in_default-clause-loses
returns-in_default-clause-loses g c = lose_none c.args.time c.self.inside.slots.items c.args.self.now c.self.view_is

pub returns-then-is_some-clause-loses : goal.returns-then-is_some-clause-loses
returns-then-is_some-clause-loses g c =
    lose_at c.args.time c.self.inside.slots.items c.args.self.now c.args.key c.in-Some.slot.now c.take_slot-taken.new.slot c.self.view_is
    (omega (arith, c.in-Some.ensures.variant.0 refl, c.self.inside.slots.ok.0)) c.in-Some.ensures.value c.take_slot-taken.ensures.loses

pub returns-else-is_some-clause-loses : goal.returns-else-is_some-clause-loses
returns-else-is_some-clause-loses g c =
    lose_at c.args.time c.self.inside.slots.items c.args.self.now c.args.key c.in-Some.slot.now c.take_slot-taken.new.slot c.self.view_is
    (omega (arith, c.in-Some.ensures.variant.0 refl, c.self.inside.slots.ok.0)) c.in-Some.ensures.value c.take_slot-taken.ensures.loses
