use Rattle.event_listing.specs.declared.stop.Stop.TheVariants.{Memory}
use Rattle.event_listing.proofs.Chunks.{none_of_journal}
use Rattle.event_listing.proofs.journal.print_journal.Goals as goal

pub returns-in-Err : goal.returns-in-Err
returns-in-Err g c = none_of_journal c.args.choice.now (g.R.ReadAt.bytes_of c.args.file.now) c.args.out.now Memory
