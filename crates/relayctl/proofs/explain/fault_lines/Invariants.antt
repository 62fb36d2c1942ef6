use Rattle.std.proofs.Common.{◌≡◌, ◌++◌, flat_map, take}
use Rattle.program_text.specs.Plans.{plan_fault_line}
use Rattle.relayctl.proofs.explain.fault_lines.Given as goal

abbrev pub invariant-loop-fault : goal.invariant-loop-fault
invariant-loop-fault g l = l.lines.items ≡ plan_fault_line l.fn.first ++ flat_map plan_fault_line (take l.fault-index l.further)
