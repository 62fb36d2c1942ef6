use Rattle.folder_listing.specs.Placed.{known_from}
use Rattle.event_listing.specs.Forms.{Items}
use Rattle.event_listing.proofs.Pieces.{file_unread}
use Rattle.event_listing.proofs.follow.print_rest.Goals as goal

pub returns-in-Err : goal.returns-in-Err
returns-in-Err g c = file_unread Items c.args.choice.now (known_from (g.O.Open.text_of c.args.files.now c.args.name.now) c.args.at) c.args.out.now c.of_reader.result
