use Rattle.event_listing.specs.Forms.{Items}
use Rattle.event_listing.specs.declared.stop.Stop.TheVariants.{Memory}
use Rattle.event_listing.proofs.Pieces.{file_unread}
use Rattle.event_listing.proofs.sink.print_sink.Goals as goal

pub returns-in-Err : goal.returns-in-Err
returns-in-Err g c = file_unread Items c.args.choice.now (g.R.CountedRead.remaining c.args.input.now) c.args.out.now Memory
