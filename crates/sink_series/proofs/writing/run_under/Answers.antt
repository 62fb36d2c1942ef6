use Rattle.sink_series.proofs.Items.{all_under}
use Rattle.sink_series.proofs.writing.run_under.Goals as goal

pub returns-clause-events : goal.returns-clause-events
returns-clause-events g c = all_under c.args.tag.now c.args.entries.now c.requires c.iter-items.ensures.stored
