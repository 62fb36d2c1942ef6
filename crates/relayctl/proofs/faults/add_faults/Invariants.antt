use Rattle.std.specs.Prelude.{All}
use Rattle.plan_lines.specs.Plans.{texts}
use Rattle.relayctl.specs.Faults.{IsFaultLeft}
use Rattle.relayctl.proofs.faults.add_faults.Given as goal

abbrev pub invariant-loop : goal.invariant-loop
invariant-loop g l = All (IsFaultLeft g.row.A.Denot l.net (texts l.confs)) l.found.items
