use Rattle.sink_series.proofs.Made.{made_content, made_safe}
use Rattle.sink_series.proofs.laws.made_adds_nothing.Goals as goal

pub returns-clause-content : goal.returns-clause-content
returns-clause-content c = made_content 4294967295

pub returns-clause-safe : goal.returns-clause-safe
returns-clause-safe c = made_safe
