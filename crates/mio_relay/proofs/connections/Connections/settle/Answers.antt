use Rattle.std.proofs.Common.{sym, subst, arith, refl}
use Rattle.mio_relay.specs.Connections.{AreSettledBelow, HoldsNone}
use Rattle.mio_relay.proofs.Slots.{holds_at, holds_past, no_not_yes}
use Rattle.mio_relay.proofs.Turning.{stand_at, stand_still}
use Rattle.mio_relay.proofs.connections.Connections.settle.Goals as goal

pub returns-in_default-clause-settled : goal.returns-in_default-clause-settled
returns-in_default-clause-settled g c =
    λ none below.
    holds_past HoldsNone c.self.inside.slots.items c.args.key _ c.self.inside.slots.ok.0 (λ lt. no_not_yes (c.in_default.ensures.variant.1 lt))
    (subst (AreSettledBelow c.args.key) (sym c.self.view_is) below)

pub returns-clause-settled : goal.returns-clause-settled
returns-clause-settled g c =
    λ none below.
    holds_at HoldsNone c.self.inside.slots.items c.args.key c.settle_slot.new.slot (c.settle_slot.ensures.settled none) (subst (AreSettledBelow c.args.key) (sym c.self.view_is) below)

pub returns-in_default-clause-stands : goal.returns-in_default-clause-stands
returns-in_default-clause-stands g c = stand_still c.self.inside.slots.items c.args.self.now c.self.view_is

pub returns-clause-stands : goal.returns-clause-stands
returns-clause-stands g c =
    stand_at c.self.inside.slots.items c.args.self.now c.args.key c.in-Some.slot.now c.settle_slot.new.slot c.self.view_is
    (omega (arith, c.in-Some.ensures.variant.0 refl, c.self.inside.slots.ok.0)) c.in-Some.ensures.value c.settle_slot.ensures.stands
