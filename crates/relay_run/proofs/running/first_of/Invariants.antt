use Rattle.std.proofs.Common.{◌≡◌, drop}
use Rattle.relay_run.specs.Running.{first_fault}
use Rattle.relay_run.proofs.running.first_of.Given as goal

abbrev pub invariant-loop-end : goal.invariant-loop-end
invariant-loop-end l = first_fault l.first (drop l.end-index l.ends) ≡ first_fault l.fn.fault l.ends
