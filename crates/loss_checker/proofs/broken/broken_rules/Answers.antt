use Rattle.std.proofs.Common.{refl, ◌∙◌, sym, subst, List}
use Rattle.loss_rules.specs.Everywhere.{AreBrokenPlaces}
use Rattle.loss_rules.specs.Rules.{NoRelabelCycle}
use Rattle.loss_rules.specs.declared.answer.Rule.TheVariants as rule
use Rattle.loss_rules.proofs.Keeping.{cycles_kept}
use Rattle.loss_checker.specs.Broken.{AreBrokenBefore}
use Rattle.loss_checker.specs.declared.broken.BrokenRule.{BrokenRule}
use Rattle.loss_checker.proofs.Listing.{none_broken, all_asked}
use Rattle.loss_checker.proofs.RuleNumbers.{in_plan}
use Rattle.loss_checker.proofs.broken.broken_rules.Goals as goal

pub ask_ends-requires-clause-before : goal.ask_ends-requires-clause-before
ask_ends-requires-clause-before g c =
    subst (λ (found : List (BrokenRule g.row.A.Denot)). AreBrokenBefore c.args.plan.now 1 found) (sym c.new-found.ensures.items) (none_broken c.args.plan.now)

pub note-requires-clause-holds : goal.note-requires-clause-holds
note-requires-clause-holds g c none =
    cycles_kept c.args.plan.now (in_plan c.args.plan.now c.net.result.now c.args.plan.now.labels c.in_ok-reaches.reaches c.net.ensures.net refl (c.in_ok-reaches.ensures ∙ c.reaches.ensures)
    (λ s. NoRelabelCycle s.net s.reaches) (c.in_ok-cycle.ensures.kept none))

pub note-requires-clause-listed : goal.note-requires-clause-listed
note-requires-clause-listed g c =
    in_plan c.args.plan.now c.net.result.now c.args.plan.now.labels c.in_ok-reaches.reaches c.net.ensures.net refl (c.in_ok-reaches.ensures ∙ c.reaches.ensures)
    (λ s. AreBrokenPlaces s rule.NoRelabelCycle c.in_ok-cycle.cycle.items) c.in_ok-cycle.ensures.listed

pub returns : goal.returns
returns g c = all_asked c.args.plan.now c.note.new.found.items c.in_ok-note.ensures
