use Rattle.std.proofs.Common.{sym, subst, arith, refl}
use Rattle.mio_relay.specs.Connections.{AreFlushedBelow, HoldsFlushed}
use Rattle.mio_relay.proofs.Slots.{holds_at, holds_past, no_not_yes}
use Rattle.mio_relay.proofs.Turning.{stand_at, stand_still}
use Rattle.mio_relay.proofs.connections.Connections.write.Goals as goal

pub returns-in_default-clause-flushed : goal.returns-in_default-clause-flushed
returns-in_default-clause-flushed g c =
    λ below.
    holds_past HoldsFlushed c.self.inside.slots.items c.args.key _ c.self.inside.slots.ok.0 (λ lt. no_not_yes (c.in_default.ensures.variant.1 lt))
    (subst (AreFlushedBelow c.args.key) (sym c.self.view_is) below)

pub returns-clause-flushed : goal.returns-clause-flushed
returns-clause-flushed g c =
    λ below.
    holds_at HoldsFlushed c.self.inside.slots.items c.args.key c.write_slot.new.slot c.write_slot.ensures.flushed (subst (AreFlushedBelow c.args.key) (sym c.self.view_is) below)

pub returns-in_default-clause-stands : goal.returns-in_default-clause-stands
returns-in_default-clause-stands g c = stand_still c.self.inside.slots.items c.args.self.now c.self.view_is

pub returns-clause-stands : goal.returns-clause-stands
returns-clause-stands g c =
    stand_at c.self.inside.slots.items c.args.self.now c.args.key c.in-Some.slot.now c.write_slot.new.slot c.self.view_is
    (omega (arith, c.in-Some.ensures.variant.0 refl, c.self.inside.slots.ok.0)) c.in-Some.ensures.value c.write_slot.ensures.stands
