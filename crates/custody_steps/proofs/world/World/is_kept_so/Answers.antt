use Rattle.custody_steps.proofs.world.World.is_kept_so.Goals as goal

pub returns-then-every : goal.returns-then-every
returns-then-every g c = rw c.if-every.true c.is_kept_each.ensures

pub returns-else-every : goal.returns-else-every
returns-else-every g c = rw c.if-every.false c.is_kept.ensures
