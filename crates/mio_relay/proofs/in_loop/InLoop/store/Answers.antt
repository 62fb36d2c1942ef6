use Rattle.std.proofs.Common.{◌∙◌, ap, refl}
use Rattle.loop_core.specs.Lanes.{LanesState}
use Rattle.mio_relay.proofs.Staying.{only_later, queued_still}
use Rattle.mio_relay.proofs.Turning.{takes_none}
use Rattle.mio_relay.proofs.in_loop.InLoop.store.Goals as goal

pub returns-clause-takes : goal.returns-clause-takes
returns-clause-takes g c = takes_none _ _ _ c.self.view_is refl (c.redeem.ensures.time.0 ∙ ap (λ (l : LanesState _). l.time) c.queue_due.ensures.rest) refl

pub returns-clause-redeemed : goal.returns-clause-redeemed
returns-clause-redeemed g c = only_later c.queue_due.new.self c.redeem.new.self c.redeem.ensures.redeemed

pub returns-clause-queued : goal.returns-clause-queued
returns-clause-queued g c =
    queued_still c.queue_due.new.self c.redeem.new.self c.redeem.ensures.plans c.redeem.ensures.time.0 c.redeem.ensures.time.1 c.queue_due.ensures.queued
