use Rattle.mio_relay.proofs.Turning.{takes_more}
use Rattle.mio_relay.proofs.in_loop.InLoop.accept_one.Goals as goal

pub returns-in-Stream-clause-takes : goal.returns-in-Stream-clause-takes
returns-in-Stream-clause-takes g c = takes_more c.args.self.now c.next_at.new.self c.admit.new.self c.next_at.ensures.takes c.admit.ensures.takes
