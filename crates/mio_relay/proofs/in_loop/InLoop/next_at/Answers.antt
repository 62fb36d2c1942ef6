use Rattle.std.proofs.Common.{refl}
use Rattle.mio_relay.proofs.Slots.{came_there}
use Rattle.mio_relay.proofs.Turning.{takes_none}
use Rattle.mio_relay.proofs.in_loop.InLoop.next_at.Goals as goal

pub returns-clause-came : goal.returns-clause-came
returns-clause-came g c =
    came_there g.N.Stream.Wire.origin (g.N.Network.bound c.self.inside.network) c.self.inside.listeners.items c.deref.result.now c.args.place c.next_of.result c.deref.ensures.value
    c.self.invariant.0 c.next_of.ensures.came

pub returns-clause-takes : goal.returns-clause-takes
returns-clause-takes g c = takes_none _ _ _ c.self.view_is refl refl refl
