use Rattle.disk_files.proofs.real.RealDirDir.create.Goals as goal

pub returns-clause-ok : goal.returns-clause-ok
returns-clause-ok g c = λ honest. absurd honest

pub returns-clause-err : goal.returns-clause-err
returns-clause-err g c = λ honest. absurd honest

pub returns-clause-memory : goal.returns-clause-memory
returns-clause-memory g c = λ honest. absurd honest

pub returns-clause-taken : goal.returns-clause-taken
returns-clause-taken g c = λ honest. absurd honest
