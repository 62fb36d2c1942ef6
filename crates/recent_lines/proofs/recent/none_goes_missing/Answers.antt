use Rattle.recent_lines.proofs.Laws.{none_missing}
use Rattle.recent_lines.proofs.recent.none_goes_missing.Goals as goal

pub returns : goal.returns
returns c = none_missing
