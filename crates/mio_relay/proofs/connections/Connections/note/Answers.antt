use Rattle.std.proofs.Common.{arith, refl}
use Rattle.mio_relay.proofs.Turning.{stand_at, stand_still}
use Rattle.mio_relay.proofs.connections.Connections.note.Goals as goal

pub returns-in_default-clause-stands : goal.returns-in_default-clause-stands
returns-in_default-clause-stands g c = stand_still c.self.inside.slots.items c.args.self.now c.self.view_is

pub returns-clause-stands : goal.returns-clause-stands
returns-clause-stands g c =
    stand_at c.self.inside.slots.items c.args.self.now c.args.key c.in-Some.slot.now c.note_slot.new.slot c.self.view_is
    (omega (arith, c.in-Some.ensures.variant.0 refl, c.self.inside.slots.ok.0)) c.in-Some.ensures.value c.note_slot.ensures.stands
