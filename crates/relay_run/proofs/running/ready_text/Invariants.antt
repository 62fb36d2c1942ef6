use Rattle.std.proofs.Common.{◌≡◌, take}
use Rattle.std.specs.List.{flat_map}
use Rattle.relay_run.proofs.running.ready_text.Given as goal
use Rattle.std.specs.Prelude.{codes, decimal, ◌++◌}
use Rattle.program_text.specs.Lines.{line}

abbrev pub invariant-loop-port : goal.invariant-loop-port
invariant-loop-port g l = l.text.items ≡ flat_map (λ port. line (codes "ready " ++ decimal port)) (take l.port-index l.ports)
