use Rattle.std.proofs.Common.{◌≡◌, Err, ap, rules}
use Rattle.folder_listing.proofs.Fed.{each_known, finished_so, if_known}
use Rattle.folder_listing.specs.declared.feeding.FeedStop.TheVariants.{Damaged}
use Rattle.folder_listing.proofs.feeding.found_by.Goals as goal

pub returns-in-Ok : goal.returns-in-Ok
returns-in-Ok g c =
    finished_so g.F.Feed.is_in (g.F.Feed.is_after c.feed_all.new.fed) (g.R.CountedRead.remaining c.args.input.now) c.finish.result c.in-Ok.ensures.whole c.finish.ensures

pub returns-in-Err-Damaged : goal.returns-in-Err-Damaged
returns-in-Err-Damaged g c =
    let is : c.in-Err-Damaged.field-0 ≡ Damaged = search rules in
    if_known g.F.Feed.is_damaged (λ bytes. g.F.Feed.is_in bytes c.damaged.result) (g.R.CountedRead.remaining c.args.input.now) (c.in-Err-Damaged.ensures.damaged (ap Err is)) c.damaged.ensures

pub returns-in-Err-Unread : goal.returns-in-Err-Unread
returns-in-Err-Unread g c = each_known (λ bytes. g.F.Feed.is_in bytes c.unread.result) (g.R.CountedRead.remaining c.args.input.now) c.unread.ensures
