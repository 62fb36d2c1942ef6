use Rattle.std.proofs.Common.{◌≡◌, ◌≤◌, subst, sym}
use Rattle.std.specs.Prelude.{OnOk}
use Rattle.loop_core.specs.Lanes.{AreQueued, NoneLater}
use Rattle.mio_relay.specs.Connections.{AreFlushed, AreInTime, AreSettled}
use Rattle.mio_relay.specs.Holding.{held_in, most_held}
use Rattle.mio_relay.specs.Loops.{IsTimeAfter, LoopState, OnlyLaterWait}
use Rattle.mio_relay.specs.Turning.{AreTurned}
use Rattle.mio_relay.proofs.in_loop.InLoop.turn.Goals as goal

pub returns-clause-settled : goal.returns-clause-settled
returns-clause-settled g c =
    subst (λ (l : LoopState _). OnOk c.turn_once-turned.result (NoneLater l.lanes.later → AreSettled l.connections)) (sym c.self.view_is) c.turn_once-turned.ensures.settled

pub returns-clause-redeemed : goal.returns-clause-redeemed
returns-clause-redeemed g c =
    subst (λ (l : LoopState _). OnOk c.turn_once-turned.result (OnlyLaterWait l.lanes)) (sym c.self.view_is) c.turn_once-turned.ensures.redeemed

pub returns-clause-queued : goal.returns-clause-queued
returns-clause-queued g c =
    subst (λ (l : LoopState _). OnOk c.turn_once-turned.result (AreQueued l.lanes)) (sym c.self.view_is) c.turn_once-turned.ensures.queued

pub returns-clause-timed : goal.returns-clause-timed
returns-clause-timed g c =
    subst (λ (l : LoopState _). OnOk c.turn_once-turned.result (l.lanes.time ≡ l.time)) (sym c.self.view_is) c.turn_once-turned.ensures.timed

pub returns-clause-clocked : goal.returns-clause-clocked
returns-clause-clocked g c =
    subst (λ (l : LoopState _). OnOk c.turn_once-turned.result (IsTimeAfter c.args.self.now.clock c.args.self.now.time l.time)) (sym c.self.view_is) c.turn_once-turned.ensures.clocked

pub returns-clause-flushed : goal.returns-clause-flushed
returns-clause-flushed g c =
    subst (λ (l : LoopState _). OnOk c.turn_once-turned.result (AreFlushed l.connections)) (sym c.self.view_is) c.turn_once-turned.ensures.flushed

pub returns-clause-in_time : goal.returns-clause-in_time
returns-clause-in_time g c =
    subst (λ (l : LoopState _). OnOk c.turn_once-turned.result (AreInTime l.time l.connections)) (sym c.self.view_is) c.turn_once-turned.ensures.in_time

pub returns-clause-held : goal.returns-clause-held
returns-clause-held g c =
    subst (λ (l : LoopState _). OnOk c.turn_once-turned.result (held_in l.connections ≤ most_held)) (sym c.self.view_is) c.turn_once-turned.ensures.held

pub returns-clause-turned : goal.returns-clause-turned
returns-clause-turned g c =
    subst (λ (l : LoopState _). AreTurned l.time c.args.self.now.connections l.connections) (sym c.self.view_is) c.turn_once-turned.ensures.turned
