use Rattle.std.proofs.Common.{refl, subst}
use Rattle.event_listing.specs.Forms.{Items}
use Rattle.folder_counts.specs.Findings.{Long, Whole}
use Rattle.folder_counts.specs.Tallies.{IsInFile}
use Rattle.folder_counts.proofs.Tallied.{sink_long, sink_whole}
use Rattle.folder_counts.proofs.events.FoundEvents.counts.Goals as goal

pub returns-in-Whole : goal.returns-in-Whole
returns-in-Whole c = λ bytes file.
    let tally = c.in-Whole.tally in
    let whole = subst (IsInFile Items bytes) c.in-Whole.is file in
    Whole tally.events c.in-Whole.taken c.in-Whole.torn c.instant_at.result (sink_whole bytes tally c.in-Whole.taken c.in-Whole.torn c.instant_at.result c.instant_at.ensures whole) refl

pub returns-in-Damaged : goal.returns-in-Damaged
returns-in-Damaged c = λ bytes file. Long (sink_long bytes (subst (IsInFile Items bytes) c.in-Damaged.is file)) refl
