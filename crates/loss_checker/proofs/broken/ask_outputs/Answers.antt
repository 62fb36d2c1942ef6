use Rattle.loss_rules.specs.Everywhere.{AreBrokenPlaces}
use Rattle.loss_rules.specs.Rules.{RelabelsAreLabelled, ForwardsAreLabelled, PathsAreDistinct}
use Rattle.loss_rules.specs.declared.answer.Rule.TheVariants as rule
use Rattle.loss_rules.proofs.Keeping.{relabels_kept, forwards_kept, paths_kept}
use Rattle.loss_checker.proofs.RuleNumbers.{in_plan}
use Rattle.loss_checker.proofs.broken.ask_outputs.Goals as goal

pub note-requires-clause-holds : goal.note-requires-clause-holds
note-requires-clause-holds g c none =
    relabels_kept c.args.plan.now (in_plan c.args.plan.now c.net-net.result.now c.args.labels.now c.args.reaches.now c.net-net.ensures.net c.requires.labels c.requires.reaches
    (λ s. RelabelsAreLabelled s.net s.labels s.reaches) (c.in_ok-relabels.ensures.kept none))

pub note-requires-clause-listed : goal.note-requires-clause-listed
note-requires-clause-listed g c =
    in_plan c.args.plan.now c.net-net.result.now c.args.labels.now c.args.reaches.now c.net-net.ensures.net c.requires.labels c.requires.reaches
    (λ s. AreBrokenPlaces s rule.RelabelsAreLabelled c.in_ok-relabels.relabels.items) c.in_ok-relabels.ensures.listed

pub note-requires-2-clause-holds : goal.note-requires-2-clause-holds
note-requires-2-clause-holds g c none =
    forwards_kept c.args.plan.now (in_plan c.args.plan.now c.net-net.result.now c.args.labels.now c.args.reaches.now c.net-net.ensures.net c.requires.labels c.requires.reaches
    (λ s. ForwardsAreLabelled s.net s.labels s.reaches) (c.in_ok-forwards.ensures.kept none))

pub note-requires-2-clause-listed : goal.note-requires-2-clause-listed
note-requires-2-clause-listed g c =
    in_plan c.args.plan.now c.net-net.result.now c.args.labels.now c.args.reaches.now c.net-net.ensures.net c.requires.labels c.requires.reaches
    (λ s. AreBrokenPlaces s rule.ForwardsAreLabelled c.in_ok-forwards.forwards.items) c.in_ok-forwards.ensures.listed

pub note-requires-3-clause-holds : goal.note-requires-3-clause-holds
note-requires-3-clause-holds g c none =
    paths_kept c.args.plan.now (in_plan c.args.plan.now c.net-net.result.now c.args.labels.now c.args.reaches.now c.net-net.ensures.net c.requires.labels c.requires.reaches
    (λ s. PathsAreDistinct s.net) (c.in_ok-paths.ensures.kept none))

pub note-requires-3-clause-listed : goal.note-requires-3-clause-listed
note-requires-3-clause-listed g c =
    in_plan c.args.plan.now c.net-net.result.now c.args.labels.now c.args.reaches.now c.net-net.ensures.net c.requires.labels c.requires.reaches
    (λ s. AreBrokenPlaces s rule.PathsAreDistinct c.in_ok-paths.paths.items) c.in_ok-paths.ensures.listed
