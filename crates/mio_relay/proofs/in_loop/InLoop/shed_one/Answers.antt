use Rattle.std.proofs.Common.{refl, subst}
use Rattle.mio_relay.specs.Connections.{AreInTime}
use Rattle.mio_relay.specs.Holding.{ShedsMost}
use Rattle.mio_relay.specs.Loops.{LoopState}
use Rattle.mio_relay.specs.Turning.{StandOn}
use Rattle.mio_relay.proofs.Staying.{rests_with, stays_on}
use Rattle.mio_relay.proofs.in_loop.InLoop.shed_one.Goals as goal

pub invariant_of-self : goal.invariant_of-self
invariant_of-self g c = (c.self.invariant.0, c.shed.ensures.goes _ c.self.invariant.1, c.self.invariant.2)

pub returns-clause-stays : goal.returns-clause-stays
returns-clause-stays g c = stays_on _ _ _ c.self.view_is refl refl refl refl refl refl

pub returns-clause-rests : goal.returns-clause-rests
returns-clause-rests g c = rests_with _ _ _ c.self.view_is refl c.shed.ensures.settled c.shed.ensures.flushed

pub returns-clause-in_time : goal.returns-clause-in_time
returns-clause-in_time g c =
    subst (λ (l : LoopState _). AreInTime l.time l.connections → AreInTime c.self.inside.time c.shed.new.self) c.self.view_is (c.shed.ensures.in_time c.self.inside.time)

pub returns-clause-most : goal.returns-clause-most
returns-clause-most g c =
    subst (λ (l : LoopState _). ShedsMost l.connections c.shed.new.self) c.self.view_is
    (record { key = c.heaviest-key.result; most = c.heaviest-key.ensures; keys = c.shed.ensures.keys; others = c.shed.ensures.others })

pub returns-clause-stands : goal.returns-clause-stands
returns-clause-stands g c = subst (λ (l : LoopState _). StandOn l.connections c.shed.new.self) c.self.view_is c.shed.ensures.stands
