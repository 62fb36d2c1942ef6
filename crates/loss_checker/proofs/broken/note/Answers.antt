use Rattle.std.proofs.Common.{◌≡◌, ◌<◌, ◌+◌, ◌∷◌, List, length, ap, subst, sym, ◌∙◌, arith}
use Rattle.std.specs.Prelude.{vec_len}
use Rattle.std.proofs.lemmas.Bool.{eqb-true}
use Rattle.loss_rules.specs.Breaks.{rule_number}
use Rattle.loss_rules.specs.Everywhere.{AreBrokenPlaces}
use Rattle.loss_rules.specs.declared.answer.Place.{Place}
use Rattle.loss_checker.specs.Broken.{AreBrokenBefore}
use Rattle.loss_checker.specs.declared.broken.BrokenRule.{BrokenRule}
use Rattle.loss_checker.proofs.Listing.{one_kept, one_broken, apart, none_at_all, some_at_all}
use Rattle.loss_checker.proofs.broken.note.Goals as goal

pub returns-then-is_empty : goal.returns-then-is_empty
returns-then-is_empty g c =
    let size : vec_len c.args.broken ≡ length c.args.broken.items = omega (arith, c.args.broken.ok.0) in
    let none : vec_len c.args.broken ≡ 0 = eqb-true (vec_len c.args.broken) 0 (sym c.is_empty.ensures ∙ c.if-is_empty.true) in
    one_kept c.args.plan.now c.args.rule c.args.found.now.items c.requires.before (c.requires.holds (none_at_all c.args.broken.items (sym size ∙ none)))

pub returns : goal.returns
returns g c =
    let size : vec_len c.args.broken ≡ length c.args.broken.items = omega (arith, c.args.broken.ok.0) in
    let some : 0 < length c.args.broken.items = some_at_all c.args.broken.items (vec_len c.args.broken) c.is_empty.result c.is_empty.ensures c.if-is_empty.false size in
    let parts = apart c.args.broken.items c.remove-place.result some c.remove-place.ensures.value ∙ ap (λ (xs : List Place). c.remove-place.result ∷ xs) (sym c.remove-place.ensures.items) in
    let listed = subst (λ (ps : List Place). AreBrokenPlaces c.args.plan.now c.args.rule ps) parts c.requires.listed in
    let one : BrokenRule g.row.A.Denot = record { rule = c.args.rule; place = c.remove-place.result; others = c.remove-place.new.self } in
    subst (λ (found : List (BrokenRule g.row.A.Denot)). AreBrokenBefore c.args.plan.now (rule_number c.args.rule + 1) found) (sym c.in_ok-push.ensures.items)
    (one_broken c.args.plan.now one c.args.found.now.items c.requires.before listed)
