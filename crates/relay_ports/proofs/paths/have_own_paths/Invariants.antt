use Rattle.std.proofs.Common.{take}
use Rattle.relay_ports.specs.Outputs.{HaveOwnPaths}
use Rattle.relay_ports.proofs.paths.have_own_paths.Given as goal

abbrev pub invariant-loop-place : goal.invariant-loop-place
invariant-loop-place g l = HaveOwnPaths (take l.place l.outputs)
