use Rattle.custody_steps.proofs.world.World.is_kept_each.Goals as goal

pub returns : goal.returns
returns g c = rw (c.as_slice.ensures.value, c.as_slice-2.ensures.value) at c.each_branch_keeps.ensures
