use Rattle.sink_series.specs.Names.{sink_name}
use Rattle.sink_series.proofs.Stays.{begins_left, left_safe, stands}
use Rattle.sink_series.proofs.laws.safe_is_content.Goals as goal

pub returns-clause-file : goal.returns-clause-file
returns-clause-file c name events disk folder safe leaves = begins_left name events disk folder safe leaves

pub returns-clause-sink : goal.returns-clause-sink
returns-clause-sink c path n events all disk folder from to safe leaves holds =
    let s = stands n 4294967295 path folder events all safe.each from to (left_safe (sink_name path n) events disk folder safe leaves) holds in
    (s.before, s.after, s.split)
