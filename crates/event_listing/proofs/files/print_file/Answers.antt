use Rattle.event_listing.specs.Forms.{Items}
use Rattle.event_listing.proofs.Pieces.{file_unread}
use Rattle.event_listing.proofs.files.print_file.Goals as goal

pub returns-in-Err : goal.returns-in-Err
returns-in-Err g c = file_unread Items c.args.choice.now (g.O.Open.text_of c.args.files.now c.args.name.now) c.args.out.now c.of_reader.result
