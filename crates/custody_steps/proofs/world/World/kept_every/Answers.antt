use Rattle.custody_steps.proofs.world.World.kept_every.Goals as goal

pub returns : goal.returns
returns g c = rw c.args.self.now.shown.is c.kept_so.ensures
