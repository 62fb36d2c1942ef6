use Rattle.std.proofs.Common.{◌≤◌, ◌∙◌, List, ap, refl, subst, sym}
use Rattle.relay_sockets.specs.Endpoints.{Endpoint}
use Rattle.mio_relay.specs.Connections.{AreListening, sources_in}
use Rattle.loop_core.specs.Lanes.{KeepsLanes}
use Rattle.mio_relay.specs.Loops.{LoopState}
use Rattle.mio_relay.proofs.Turning.{takes_more, takes_standing}
use Rattle.mio_relay.proofs.in_loop.InLoop.admit.Goals as goal

pub invariant_of-self-2 : goal.invariant_of-self-2
invariant_of-self-2 g c = (
  subst (λ (b : List Endpoint). AreListening b c.self.inside.listeners.items) (sym c.watch.ensures.bound) c.self.invariant.0,
  c.make_room.ensures.goes (sources_in c.self.inside.listeners.items) c.self.invariant.1,
  c.self.invariant.2,
)

pub returns-clause-stays : goal.returns-clause-stays
returns-clause-stays g c = record {
  bound = c.begin.ensures.stays.bound ∙ c.watch.ensures.bound ∙ ap (λ (l : LoopState _). l.bound) c.self.view_is;
  sources = c.begin.ensures.stays.sources ∙ ap (λ (l : LoopState _). l.sources) c.self.view_is;
  buffers = c.begin.ensures.stays.buffers ∙ ap (λ (l : LoopState _). l.buffers) c.self.view_is;
  lanes = subst (λ (l : LoopState _). KeepsLanes l.lanes c.begin.new.self.lanes) c.self.view_is c.begin.ensures.stays.lanes;
  numbers = subst (λ (l : LoopState _). l.numbers ≤ c.begin.new.self.numbers) c.self.view_is c.begin.ensures.stays.numbers;
  clock = c.begin.ensures.stays.clock ∙ c.watch.ensures.time ∙ ap (λ (l : LoopState _). l.clock) c.self.view_is;
}

pub returns-clause-takes : goal.returns-clause-takes
returns-clause-takes g c = takes_more _ _ _ (takes_standing _ _ _ c.self.view_is refl refl c.make_room.ensures.stands) c.begin.ensures.takes

pub invariant_of-self-in_default : goal.invariant_of-self-in_default
invariant_of-self-in_default g c =
    (c.self.invariant.0, c.make_room.ensures.goes (sources_in c.self.inside.listeners.items) c.self.invariant.1, c.self.invariant.2)

pub invariant_of-self-then-is_err : goal.invariant_of-self-then-is_err
invariant_of-self-then-is_err g c = (
  subst (λ (b : List Endpoint). AreListening b c.self.inside.listeners.items) (sym c.watch.ensures.bound) c.self.invariant.0,
  c.make_room.ensures.goes (sources_in c.self.inside.listeners.items) c.self.invariant.1,
  c.self.invariant.2,
)

pub returns-in_err-key-clause-takes : goal.returns-in_err-key-clause-takes
returns-in_err-key-clause-takes g c = takes_standing _ _ _ c.self.view_is refl refl c.make_room.ensures.stands

pub returns-in_default-clause-takes : goal.returns-in_default-clause-takes
returns-in_default-clause-takes g c = takes_standing _ _ _ c.self.view_is refl refl c.make_room.ensures.stands

pub returns-then-is_err-clause-takes : goal.returns-then-is_err-clause-takes
returns-then-is_err-clause-takes g c = takes_standing _ _ _ c.self.view_is refl refl c.make_room.ensures.stands
