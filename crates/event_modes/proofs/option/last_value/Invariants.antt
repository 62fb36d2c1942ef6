use Rattle.event_modes.proofs.Walked.{Sought}
use Rattle.event_modes.proofs.option.last_value.Given as goal

abbrev pub invariant-loop-key : goal.invariant-loop-key
invariant-loop-key l = Sought l.name l.fn.items l.items l.last
