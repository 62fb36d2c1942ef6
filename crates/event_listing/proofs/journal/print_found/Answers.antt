use Rattle.std.proofs.Common.{subst}
use Rattle.std.specs.Prelude.{IfSome}
use Rattle.folder_listing.specs.Findings.{IsInJournal}
use Rattle.event_listing.specs.declared.stop.Stop.TheVariants.{Read}
use Rattle.event_listing.proofs.Chunks.{journal_damaged, journal_unsealed, none_of_journal}
use Rattle.event_listing.proofs.journal.print_found.Goals as goal

pub returns-in-Unsealed : goal.returns-in-Unsealed
returns-in-Unsealed g c = λ is.
    let known = g.R.ReadAt.bytes_of c.args.file.now in
    journal_unsealed c.args.choice.now known c.args.out.now (subst (λ f. IfSome known (λ bytes. IsInJournal bytes f)) c.in-Unsealed.is is)

pub returns-in-Damaged : goal.returns-in-Damaged
returns-in-Damaged g c = λ is.
    let known = g.R.ReadAt.bytes_of c.args.file.now in
    journal_damaged c.args.choice.now known c.args.out.now (subst (λ f. IfSome known (λ bytes. IsInJournal bytes f)) c.in-Damaged.is is)

pub returns-in-Unread : goal.returns-in-Unread
returns-in-Unread g c = λ is. none_of_journal c.args.choice.now (g.R.ReadAt.bytes_of c.args.file.now) c.args.out.now Read
