use Rattle.sink_series.proofs.Stays.{safe_over_stop}
use Rattle.sink_series.proofs.laws.safe_over_stop.Goals as goal

pub returns : goal.returns
returns c = safe_over_stop
