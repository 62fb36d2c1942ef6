use Rattle.event_modes.proofs.Collected.{Collected}
use Rattle.event_modes.proofs.entries.forward.Given as goal

abbrev pub invariant-loop-entry : goal.invariant-loop-entry
invariant-loop-entry g l = Collected l.array l.items l.entries
