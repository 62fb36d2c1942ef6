use Rattle.disk_files.proofs.either.EitherDirDir.remove.Goals as goal

pub returns-in-Left-clause-err : goal.returns-in-Left-clause-err
returns-in-Left-clause-err g c = rw c.in-Left.is c.remove.ensures.err

pub returns-in-Right-clause-err : goal.returns-in-Right-clause-err
returns-in-Right-clause-err g c = rw c.in-Right.is c.remove-in-Right.ensures.err
