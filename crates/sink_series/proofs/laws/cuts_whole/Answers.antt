use Rattle.sink_series.proofs.Contents.{cuts_whole}
use Rattle.sink_series.proofs.laws.cuts_whole.Goals as goal

pub returns : goal.returns
returns c = cuts_whole
