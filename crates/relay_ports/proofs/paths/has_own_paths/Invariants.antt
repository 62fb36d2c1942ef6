use Rattle.std.specs.List.{AllWithin}
use Rattle.relay_ports.specs.Outputs.{HaveOther}
use Rattle.relay_ports.proofs.paths.has_own_paths.Given as goal

abbrev pub invariant-loop-other : goal.invariant-loop-other
invariant-loop-other g l = AllWithin (λ other. HaveOther other l.output) l.others 0 l.other-index
