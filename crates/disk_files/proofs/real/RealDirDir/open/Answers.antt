use Rattle.disk_files.proofs.real.RealDirDir.open.Goals as goal

pub returns-clause-same : goal.returns-clause-same
returns-clause-same g c = λ honest. absurd honest

pub returns-clause-ok : goal.returns-clause-ok
returns-clause-ok g c = λ honest. absurd honest

pub returns-clause-missing : goal.returns-clause-missing
returns-clause-missing g c = λ honest. absurd honest
