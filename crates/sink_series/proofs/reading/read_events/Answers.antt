use Rattle.sink_series.proofs.Onward.{some_case, shorter}
use Rattle.sink_series.proofs.reading.read_events.Goals as goal

pub loop-events-smaller : goal.loop-events-smaller
loop-events-smaller g c =
    let found = some_case c.in_ok-first.field-0 c.in-Some.first _ _ c.in-Some.is c.in_ok-first.ensures in
    shorter c.in-Some.first.0 c.loop-events.rest.now c.in-Some.first.1.now found.1
