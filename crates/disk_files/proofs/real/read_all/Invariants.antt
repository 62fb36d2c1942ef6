use Rattle.std.proofs.Common.{◌≤◌, length}
use Rattle.disk_files.proofs.real.read_all.Given as goal

abbrev pub invariant-loop : goal.invariant-loop
invariant-loop g l = l.count ≤ length l.into
