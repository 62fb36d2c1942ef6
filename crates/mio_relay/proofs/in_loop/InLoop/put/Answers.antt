use Rattle.std.proofs.Common.{◌∙◌, ap, refl, sym, subst}
use Rattle.loop_core.specs.Lanes.{LanesState}
use Rattle.mio_relay.specs.Connections.{IsServed}
use Rattle.mio_relay.specs.Loops.{LoopState}
use Rattle.mio_relay.proofs.Staying.{stays_on}
use Rattle.mio_relay.proofs.Turning.{takes_one}
use Rattle.mio_relay.proofs.in_loop.InLoop.put.Goals as goal

pub invariant_of-self : goal.invariant_of-self
invariant_of-self g c = (
  c.self.invariant.0,
  c.put.ensures.served _ c.self.invariant.1 (subst (λ (l : LoopState _). IsServed l.sources c.args.connection) (sym c.self.view_is) c.requires.served),
  ap (λ (l : LanesState _). l.terms) c.end.ensures ∙ c.self.invariant.2,
)

pub invariant_of-self-in_default : goal.invariant_of-self-in_default
invariant_of-self-in_default g c =
    (c.self.invariant.0, c.put.ensures.served _ c.self.invariant.1 (subst (λ (l : LoopState _). IsServed l.sources c.args.connection) (sym c.self.view_is) c.requires.served), c.self.invariant.2)

pub returns-in-Some-clause-stays : goal.returns-in-Some-clause-stays
returns-in-Some-clause-stays g c = stays_on _ _ _ c.self.view_is refl refl refl c.end.ensures refl refl

pub returns-in_default-clause-stays : goal.returns-in_default-clause-stays
returns-in_default-clause-stays g c = stays_on _ _ _ c.self.view_is refl refl refl refl refl refl

pub returns-in-Some-clause-takes : goal.returns-in-Some-clause-takes
returns-in-Some-clause-takes g c =
    takes_one _ _ _ c.args.connection c.self.view_is refl (ap (λ (l : LanesState _). l.time) c.end.ensures)
    (c.requires.now ∙ sym (ap (λ (l : LoopState _). l.time) c.self.view_is)) c.put.ensures.gets

pub returns-in_default-clause-takes : goal.returns-in_default-clause-takes
returns-in_default-clause-takes g c =
    takes_one _ _ _ c.args.connection c.self.view_is refl refl (c.requires.now ∙ sym (ap (λ (l : LoopState _). l.time) c.self.view_is)) c.put.ensures.gets
