use Rattle.event_listing.proofs.Chunks.{none_of_journal}
use Rattle.event_listing.proofs.files.open_journal.Goals as goal

pub returns-in-Err : goal.returns-in-Err
returns-in-Err g c = none_of_journal c.args.choice.now (g.O.Open.text_of c.args.files.now c.args.name.now) c.args.out.now c.of_reader.result
