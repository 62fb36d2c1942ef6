use Rattle.custody_steps.proofs.Views.{chunk_world, is_within}
use Rattle.custody_steps.proofs.world.World.remove.Goals as goal

pub returns-clause-world : goal.returns-clause-world
returns-clause-world g c = chunk_world c.args.self.now.places c.remove.new.self c.args.self.now.book c.args.found _ (is_within _ _ c.requires.live) c.remove.ensures
