use Rattle.folder_listing.proofs.Fed.{each_known}
use Rattle.folder_listing.proofs.feeding.found_in.Goals as goal

pub returns : goal.returns
returns g c = each_known (λ bytes. g.F.Feed.is_in bytes c.unread.result) (g.O.Open.text_of c.args.files.now c.args.name.now) c.unread.ensures
