use Rattle.std.proofs.Common.{[], subst}
use Rattle.std.specs.Prelude.{IfSome}
use Rattle.event_listing.specs.Forms.{Under}
use Rattle.folder_listing.specs.Placed.{known_at}
use Rattle.folder_listing.proofs.Fed.{if_known}
use Rattle.folder_counts.specs.Tallies.{IsInFile, IsOldestIn}
use Rattle.folder_counts.proofs.Live.{known_new}
use Rattle.folder_counts.proofs.journal.oldest_at.Goals as goal

pub returns : goal.returns
returns g c =
    let at = c.new-entries.result in
    let found = c.in_ok-found.found in
    let known = known_new (g.R.ReadAt.bytes_of) at.file.now c.args.file.now at.places.now c.args.places.now at.done c.new-entries.ensures.file c.new-entries.ensures.places c.new-entries.ensures.done in
    if_known (λ bytes. IsInFile (Under []) bytes found) (λ bytes. IsOldestIn bytes _) (known_at (g.R.ReadAt.bytes_of c.args.file.now) c.args.places.now 0)
    (subst (λ k. IfSome k (λ bytes. IsInFile (Under []) bytes found)) known c.in_ok-found.ensures) c.oldest.ensures
