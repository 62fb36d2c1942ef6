use Rattle.std.proofs.Common.{◌∙◌, ap, sym, subst, refl}
use Rattle.loop_core.specs.Lanes.{LanesState, NoneLater}
use Rattle.mio_relay.specs.Connections.{AreSettledBelow}
use Rattle.mio_relay.specs.Loops.{LoopState}
use Rattle.mio_relay.proofs.Turning.{takes_standing}
use Rattle.mio_relay.proofs.in_loop.InLoop.settle_at.Goals as goal

pub returns-clause-settled : goal.returns-clause-settled
returns-clause-settled g c =
    λ none below.
    c.settle.ensures.settled (subst (λ (l : LoopState _). NoneLater l.lanes.later) (sym c.self.view_is) none)
    (subst (λ (l : LoopState _). AreSettledBelow c.args.key l.connections) (sym c.self.view_is) below)

pub invariant_of-self : goal.invariant_of-self
invariant_of-self g c =
    (c.self.invariant.0, c.settle.ensures.goes _ c.self.invariant.1, ap (λ (l : LanesState _). l.terms) c.settle.ensures.lanes ∙ c.self.invariant.2)

pub returns-clause-takes : goal.returns-clause-takes
returns-clause-takes g c = takes_standing _ _ _ c.self.view_is refl (ap (λ (l : LanesState _). l.time) c.settle.ensures.lanes) c.settle.ensures.stands
