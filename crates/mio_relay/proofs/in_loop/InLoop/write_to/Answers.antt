use Rattle.std.proofs.Common.{subst, sym, refl}
use Rattle.mio_relay.specs.Connections.{AreFlushedBelow, AreSettled}
use Rattle.mio_relay.specs.Loops.{LoopState}
use Rattle.mio_relay.proofs.Turning.{takes_standing}
use Rattle.mio_relay.proofs.in_loop.InLoop.write_to.Goals as goal

pub invariant_of-self : goal.invariant_of-self
invariant_of-self g c = (c.self.invariant.0, c.write.ensures.goes _ c.self.invariant.1, c.self.invariant.2)

pub returns-clause-settled : goal.returns-clause-settled
returns-clause-settled g c = λ all. c.write.ensures.settled (subst (λ (l : LoopState _). AreSettled l.connections) (sym c.self.view_is) all)

pub returns-clause-flushed : goal.returns-clause-flushed
returns-clause-flushed g c = λ below. c.write.ensures.flushed (subst (λ (l : LoopState _). AreFlushedBelow c.args.key l.connections) (sym c.self.view_is) below)

pub returns-clause-takes : goal.returns-clause-takes
returns-clause-takes g c = takes_standing _ _ _ c.self.view_is refl refl c.write.ensures.stands
