use Rattle.custody_steps.proofs.world.World.held.Goals as goal

pub returns : goal.returns
returns g c = rw c.args.self.now.shown.is c.hold.ensures
