use Rattle.std.proofs.Common.{take}
use Rattle.plan_lines.specs.Plans.{texts}
use Rattle.relayctl.specs.Faults.{AreLeft}
use Rattle.relayctl.proofs.blanks.confs_left.Given as goal

abbrev pub invariant-loop-place : goal.invariant-loop-place
invariant-loop-place g l = AreLeft (texts (take l.place l.confs)) (texts l.all.items)
