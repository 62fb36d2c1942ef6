use Rattle.flush_pool.specs.Acts.{at}
use Rattle.flush_pool.specs.Diaries.{act_of}
use Rattle.flush_pool.proofs.Lawful.{lawful}
use Rattle.flush_pool.proofs.worker.Worker.write.Goals as goal

pub invariant_of-self : goal.invariant_of-self
invariant_of-self g c =
    let i = c.self.inside in
    lawful g.G.Gate.lets g.C.Courier.gives (at i.buffer.now i.courier.now i.gate.now i.retries.now) (act_of c.args.deed) i.diary c.add.new.self c.args.self.now c.self.view_is c.add.ensures c.requires.may c.requires.vouched c.self.invariant
