use Rattle.std.proofs.Common.{◌≡◌, ◌↔◌, ℕ, IsTrue, refl, subst}
use Rattle.loss_rules.proofs.Lines.{added_unless}
use Rattle.loss_rules.specs.Labels.{FitsLabel, EachReach}
use Rattle.loss_rules.proofs.outputs.RelabelsToLabelRequirementOutput.add_lines.Goals as goal

pub returns : goal.returns
returns g c =
    let e = rw c.no_prefix-none.ensures at c.reaches_fit_label-kept.ensures in
    let iff : IsTrue c.reaches_fit_label-kept.result ↔ ((target : ℕ) → c.in-Relabel.target.0 ≡ target → EachReach c.args.self.now.reaches.now c.args.at.place c.args.at.scope c.args.at.rule (FitsLabel c.args.self.now.labels.now c.args.at.place target)) =
    (λ t target same. subst (λ (n : ℕ). EachReach c.args.self.now.reaches.now c.args.at.place c.args.at.scope c.args.at.rule (FitsLabel c.args.self.now.labels.now c.args.at.place n)) same (e.0 t), λ h. e.1 (h c.in-Relabel.target.0 refl)) in
    rw c.in-Relabel.is (added_unless c.add_unless.result ((target : ℕ) → c.in-Relabel.target.0 ≡ target → EachReach c.args.self.now.reaches.now c.args.at.place c.args.at.scope c.args.at.rule (FitsLabel c.args.self.now.labels.now c.args.at.place target)) c.reaches_fit_label-kept.result c.in-Relabel.line _ _ iff c.add_unless.ensures)
