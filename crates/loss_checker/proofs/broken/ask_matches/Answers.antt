use Rattle.std.proofs.Common.{refl}
use Rattle.loss_rules.specs.Everywhere.{AreBrokenPlaces}
use Rattle.loss_rules.specs.Rules.{LabelsAreMatched, ReachesCover, ReachedMatchesDo}
use Rattle.loss_rules.specs.declared.answer.Rule.TheVariants as rule
use Rattle.loss_rules.proofs.Keeping.{labels_kept, covers_kept, matches_kept}
use Rattle.loss_checker.proofs.RuleNumbers.{in_plan}
use Rattle.loss_checker.proofs.broken.ask_matches.Goals as goal

pub note-requires-clause-holds : goal.note-requires-clause-holds
note-requires-clause-holds g c none =
    labels_kept c.args.plan.now (in_plan c.args.plan.now c.net-net.result.now c.labels-list.result.now c.args.reaches.now c.net-net.ensures.net c.labels-list.ensures c.requires.reaches
    (λ s. LabelsAreMatched s.net s.labels) (c.in_ok-matched.ensures.kept none))

pub note-requires-clause-listed : goal.note-requires-clause-listed
note-requires-clause-listed g c =
    in_plan c.args.plan.now c.net-net.result.now c.labels-list.result.now c.args.reaches.now c.net-net.ensures.net c.labels-list.ensures c.requires.reaches
    (λ s. AreBrokenPlaces s rule.LabelsAreMatched c.in_ok-matched.matched.items) c.in_ok-matched.ensures.listed

pub note-requires-2-clause-holds : goal.note-requires-2-clause-holds
note-requires-2-clause-holds g c none =
    covers_kept c.args.plan.now (in_plan c.args.plan.now c.net-net.result.now c.labels-list.result.now c.args.reaches.now c.net-net.ensures.net c.labels-list.ensures c.requires.reaches
    (λ s. ReachesCover s.net s.labels s.reaches) (c.in_ok-covered.ensures.kept none))

pub note-requires-2-clause-listed : goal.note-requires-2-clause-listed
note-requires-2-clause-listed g c =
    in_plan c.args.plan.now c.net-net.result.now c.labels-list.result.now c.args.reaches.now c.net-net.ensures.net c.labels-list.ensures c.requires.reaches
    (λ s. AreBrokenPlaces s rule.ReachesCover c.in_ok-covered.covered.items) c.in_ok-covered.ensures.listed

pub note-requires-3-clause-holds : goal.note-requires-3-clause-holds
note-requires-3-clause-holds g c none =
    matches_kept c.args.plan.now (in_plan c.args.plan.now c.net-net.result.now c.args.plan.now.labels c.args.reaches.now c.net-net.ensures.net refl c.requires.reaches
    (λ s. ReachedMatchesDo s.net s.duty s.reaches) ((rw c.duty.ensures at c.in_ok-kept.ensures.kept) none))

pub note-requires-3-clause-listed : goal.note-requires-3-clause-listed
note-requires-3-clause-listed g c =
    in_plan c.args.plan.now c.net-net.result.now c.args.plan.now.labels c.args.reaches.now c.net-net.ensures.net refl c.requires.reaches
    (λ s. AreBrokenPlaces s rule.ReachedMatchesKeep c.in_ok-kept.kept.items) (rw c.duty.ensures at c.in_ok-kept.ensures.listed)
