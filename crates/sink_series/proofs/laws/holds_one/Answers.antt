use Rattle.sink_series.proofs.Contents.{holds_one}
use Rattle.sink_series.proofs.Stays.{to_one}
use Rattle.sink_series.proofs.laws.holds_one.Goals as goal

pub returns-clause-bytes : goal.returns-clause-bytes
returns-clause-bytes c = holds_one

pub returns-clause-sink : goal.returns-clause-sink
returns-clause-sink c = to_one 4294967295
