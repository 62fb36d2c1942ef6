use Rattle.event_listing.specs.declared.stop.Stop.TheVariants.{Memory}
use Rattle.event_listing.proofs.Chunks.{none_live}
use Rattle.event_listing.proofs.journal.print_live.Goals as goal

pub returns-in-Err : goal.returns-in-Err
returns-in-Err g c = none_live c.args.choice.now c.args.outlined.now.places (g.R.ReadAt.bytes_of c.args.file.now) c.args.out.now c.args.outlined.now.chunks Memory
