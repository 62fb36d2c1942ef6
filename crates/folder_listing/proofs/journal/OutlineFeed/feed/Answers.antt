use Rattle.std.proofs.Common.{rules}
use Rattle.chunk_journal.specs.Meaning.{IsDamaged}
use Rattle.folder_listing.proofs.Fed.{damaged_on}
use Rattle.folder_listing.proofs.journal.OutlineFeed.feed.Goals as goal

pub returns-in-Err-BadRecord-clause-damaged : goal.returns-in-Err-BadRecord-clause-damaged
returns-in-Err-BadRecord-clause-damaged g c = λ seen more on e.
    let damaged : IsDamaged seen = search (rules, c.feed.ensures.damaged seen on) in
    damaged_on seen c.args.piece.now more damaged
