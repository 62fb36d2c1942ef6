use Rattle.disk_files.proofs.either.EitherDirDir.read_at.Goals as goal

pub returns-in-Left-clause-count : goal.returns-in-Left-clause-count
returns-in-Left-clause-count g c = rw c.in-Left.is c.read_at.ensures.count

pub returns-in-Left-clause-bytes : goal.returns-in-Left-clause-bytes
returns-in-Left-clause-bytes g c = rw c.in-Left.is c.read_at.ensures.bytes

pub returns-in-Right-clause-count : goal.returns-in-Right-clause-count
returns-in-Right-clause-count g c = rw c.in-Right.is c.read_at-in-Right.ensures.count

pub returns-in-Right-clause-bytes : goal.returns-in-Right-clause-bytes
returns-in-Right-clause-bytes g c = rw c.in-Right.is c.read_at-in-Right.ensures.bytes
