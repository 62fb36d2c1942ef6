use Rattle.std.proofs.Common.{◌∙◌, ◌+◌, List, ap, refl, sym, subst}
use Rattle.loop_core.specs.Lanes.{LanesState}
use Rattle.relay_sockets.specs.Endpoints.{Endpoint}
use Rattle.mio_relay.specs.Connections.{AreInTimeBelow, AreListening}
use Rattle.mio_relay.specs.Loops.{LoopState}
use Rattle.mio_relay.specs.Turning.{EachKey, MayLose}
use Rattle.mio_relay.proofs.Staying.{rests_with, stays_on}
use Rattle.mio_relay.proofs.in_loop.InLoop.close.Goals as goal

pub invariant_of-self : goal.invariant_of-self
invariant_of-self g c = (
  subst (λ (b : List Endpoint). AreListening b c.self.inside.listeners.items) (sym c.close.ensures.bound) c.self.invariant.0,
  c.take.ensures.goes _ c.self.invariant.1,
  ap (λ (l : LanesState _). l.terms) c.end.ensures ∙ c.self.invariant.2,
)

pub invariant_of-self-in_default : goal.invariant_of-self-in_default
invariant_of-self-in_default g c = (c.self.invariant.0, c.take.ensures.goes _ c.self.invariant.1, c.self.invariant.2)

pub returns-in-Some-clause-stays : goal.returns-in-Some-clause-stays
returns-in-Some-clause-stays g c = stays_on _ _ _ c.self.view_is c.close.ensures.bound refl refl c.end.ensures refl c.close.ensures.time

pub returns-in-Some-clause-rests : goal.returns-in-Some-clause-rests
returns-in-Some-clause-rests g c =
    rests_with _ _ _ c.self.view_is c.end.ensures c.take.ensures.settled c.take.ensures.flushed

pub returns-in_default-clause-rests : goal.returns-in_default-clause-rests
returns-in_default-clause-rests g c = rests_with _ _ _ c.self.view_is refl c.take.ensures.settled c.take.ensures.flushed

pub returns-in-Some-clause-in_time : goal.returns-in-Some-clause-in_time
returns-in-Some-clause-in_time g c =
    subst (λ (l : LoopState _). AreInTimeBelow l.time c.args.key l.connections → AreInTimeBelow l.time (c.args.key + 1) c.take.new.self) c.self.view_is c.take.ensures.in_time

pub returns-in_default-clause-in_time : goal.returns-in_default-clause-in_time
returns-in_default-clause-in_time g c =
    subst (λ (l : LoopState _). AreInTimeBelow l.time c.args.key l.connections → AreInTimeBelow l.time (c.args.key + 1) c.take.new.self) c.self.view_is c.take.ensures.in_time

pub returns-in-Some-clause-loses : goal.returns-in-Some-clause-loses
returns-in-Some-clause-loses g c =
    subst (λ (l : LoopState _). EachKey (MayLose l.time) l.connections c.take.new.self) c.self.view_is c.take.ensures.loses

pub returns-in_default-clause-loses : goal.returns-in_default-clause-loses
returns-in_default-clause-loses g c =
    subst (λ (l : LoopState _). EachKey (MayLose l.time) l.connections c.take.new.self) c.self.view_is c.take.ensures.loses
