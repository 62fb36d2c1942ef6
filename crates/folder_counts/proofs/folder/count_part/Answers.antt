use Rattle.std.proofs.Common.{subst, sym}
use Rattle.event_listing.specs.Forms.{Items}
use Rattle.folder_listing.proofs.Fed.{if_known}
use Rattle.folder_counts.specs.Findings.{IsInSink}
use Rattle.folder_counts.specs.Folders.{IsCounted, OfSink}
use Rattle.folder_counts.specs.Tallies.{IsInFile}
use Rattle.folder_counts.specs.Views.{SinkView}
use Rattle.folder_counts.proofs.folder.count_part.Goals as goal

pub returns-clause-is : goal.returns-clause-is
returns-clause-is g c =
    let named = g.O.Open.text_of c.args.files.now in
    let found = c.in_ok-found.found in
    subst (λ (sink : SinkView). IsCounted named (OfSink sink)) (sym c.new-2.ensures)
    (c.owner_of-number.ensures, if_known (λ bytes. IsInFile Items bytes found) (λ bytes. IsInSink bytes c.counts.result) (named c.args.name.now) c.in_ok-found.ensures c.counts.ensures)
