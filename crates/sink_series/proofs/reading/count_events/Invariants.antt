use Rattle.std.proofs.Common.{length}
use Rattle.sink_series.proofs.Onward.{CountOn}
use Rattle.sink_series.proofs.reading.count_events.Given as goal

abbrev pub invariant-loop-first : goal.invariant-loop-first
invariant-loop-first g l = CountOn l.bytes l.count l.rest

abbrev pub decreases-loop-first : goal.decreases-loop-first
decreases-loop-first g l = length l.rest
