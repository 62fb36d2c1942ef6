use Rattle.std.proofs.Common.{ap, refl}
use Rattle.loop_core.specs.Lanes.{LanesState}
use Rattle.mio_relay.proofs.Staying.{rests_on}
use Rattle.mio_relay.proofs.Turning.{takes_none}
use Rattle.mio_relay.proofs.in_loop.InLoop.renew.Goals as goal

pub returns-clause-rests : goal.returns-clause-rests
returns-clause-rests g c =
    let rest = c.renew.ensures.rest in
    rests_on _ _ _ c.self.view_is (ap (λ (l : LanesState _). l.waiting) rest) (ap (λ (l : LanesState _). l.later) rest) (ap (λ (l : LanesState _). l.plans) rest)
    (ap (λ (l : LanesState _). l.time) rest) (ap (λ (l : LanesState _). l.short) rest) (λ all. all) (λ all. all)

pub returns-clause-takes : goal.returns-clause-takes
returns-clause-takes g c = takes_none _ _ _ c.self.view_is refl (ap (λ (l : LanesState _). l.time) c.renew.ensures.rest) refl
