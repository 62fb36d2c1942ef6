use Rattle.custody_steps.specs.WorldOf.{net_of, world_of}
use Rattle.custody_steps.proofs.Taken.{taken_so, refused_so, unchanged_so}
use Rattle.custody_steps.proofs.world.World.step.Goals as goal

pub returns-clause-ok : goal.returns-clause-ok
returns-clause-ok g c =
    let old = c.args.self.now in
    let new = c.take.new.self in
    rw (old.shown.is, new.shown.is) (taken_so (net_of old) (world_of old) c.args.step.now (world_of new) c.take.result c.take.ensures.answer)

pub returns-clause-refused : goal.returns-clause-refused
returns-clause-refused g c =
    let old = c.args.self.now in
    rw old.shown.is (refused_so (net_of old) (world_of old) c.args.step.now (world_of c.take.new.self) c.take.result c.take.ensures.answer)

pub returns-clause-unchanged : goal.returns-clause-unchanged
returns-clause-unchanged g c =
    let old = c.args.self.now in
    let new = c.take.new.self in
    rw (old.shown.is, new.shown.is) (unchanged_so (net_of old) (world_of old) c.args.step.now (world_of new) c.take.result c.take.ensures.answer)
