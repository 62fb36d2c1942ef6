use Rattle.std.proofs.Common.{length}
use Rattle.sink_series.proofs.Onward.{ReadOn}
use Rattle.sink_series.proofs.reading.read_events.Given as goal

abbrev pub invariant-loop-events : goal.invariant-loop-events
invariant-loop-events g l = ReadOn l.bytes l.events.items l.rest

abbrev pub decreases-loop-events : goal.decreases-loop-events
decreases-loop-events g l = length l.rest
