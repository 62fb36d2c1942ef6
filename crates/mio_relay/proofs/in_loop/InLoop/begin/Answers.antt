use Rattle.std.proofs.Common.{◌≤◌, ◌∙◌, List, ap, refl, subst, sym}
use Rattle.std.specs.Prelude.{IsSomeAnd, slice_get}
use Rattle.mio_relay.specs.Connections.{BeginsAt, ConnectionState, Hosted}
use Rattle.loop_core.specs.Lanes.{KeepsLanes}
use Rattle.mio_relay.specs.Loops.{LoopState}
use Rattle.mio_relay.proofs.Slots.{begins_served}
use Rattle.mio_relay.proofs.Turning.{takes_more, takes_none}
use Rattle.mio_relay.proofs.in_loop.InLoop.begin.Goals as goal

pub put-requires-clause-served : goal.put-requires-clause-served
put-requires-clause-served g c =
    let came = ap (λ (x : ConnectionState). x.origin) c.new.ensures ∙ c.requires in
    let begins = rw c.in-Some.is at c.in_ok-peer.ensures in
    let there = subst (λ (l : List Hosted). IsSomeAnd (slice_get l c.args.place) (λ h. BeginsAt h.source c.draw-nonce.result c.in-Some.peer)) c.deref.ensures.value begins in
    begins_served c.self.inside.listeners.items c.args.place c.draw-nonce.result c.new.result came
    (subst (λ (x : ConnectionState). IsSomeAnd (slice_get c.self.inside.listeners.items c.args.place) (λ h. BeginsAt h.source c.draw-nonce.result x.peer)) (sym c.new.ensures) there)

pub returns-clause-stays : goal.returns-clause-stays
returns-clause-stays g c = record {
  bound = c.put.ensures.stays.bound ∙ ap (λ (l : LoopState _). l.bound) c.self.view_is;
  sources = c.put.ensures.stays.sources ∙ ap (λ (l : LoopState _). l.sources) c.self.view_is;
  buffers = c.put.ensures.stays.buffers ∙ ap (λ (l : LoopState _). l.buffers) c.self.view_is;
  lanes = subst (λ (l : LoopState _). KeepsLanes l.lanes c.put.new.self.lanes) c.self.view_is c.put.ensures.stays.lanes;
  numbers = subst (λ (l : LoopState _). l.numbers ≤ c.put.new.self.numbers) c.self.view_is c.put.ensures.stays.numbers;
  clock = c.put.ensures.stays.clock ∙ ap (λ (l : LoopState _). l.clock) c.self.view_is;
}

pub returns-clause-takes : goal.returns-clause-takes
returns-clause-takes g c = takes_more _ _ _ (takes_none _ _ _ c.self.view_is refl refl refl) c.put.ensures.takes

pub returns-in_err-peer-clause-takes : goal.returns-in_err-peer-clause-takes
returns-in_err-peer-clause-takes g c = takes_none _ _ _ c.self.view_is refl refl refl

pub returns-in_default-clause-takes : goal.returns-in_default-clause-takes
returns-in_default-clause-takes g c = takes_none _ _ _ c.self.view_is refl refl refl
