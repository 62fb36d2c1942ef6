use Rattle.custody_steps.proofs.Views.{chunk_world, live_within}
use Rattle.custody_steps.proofs.world.World.prove_delivered.Goals as goal

pub returns-clause-world : goal.returns-clause-world
returns-clause-world g c =
    let before = c.args.self.now.places in
    let found = c.args.found in
    chunk_world before c.prove_delivered.new.self c.args.self.now.book found _ (live_within before found.place found.buffer found.serial _ c.requires.claimed) c.prove_delivered.ensures
