use Rattle.disk_files.proofs.either.EitherDirDir.append.Goals as goal

pub returns-in-Left-clause-err : goal.returns-in-Left-clause-err
returns-in-Left-clause-err g c = rw c.in-Left.is c.append.ensures.err

pub returns-in-Right-clause-err : goal.returns-in-Right-clause-err
returns-in-Right-clause-err g c = rw c.in-Right.is c.append-in-Right.ensures.err
