use Rattle.event_modes.proofs.Walked.{Examined}
use Rattle.event_modes.proofs.option.examine.Given as goal

abbrev pub invariant-loop-key : goal.invariant-loop-key
invariant-loop-key l = Examined l.fn.items l.items
