use Rattle.std.proofs.Common.{◌↔◌, IsTrue, refl}
use Rattle.loss_rules.proofs.Lines.{added_unless}
use Rattle.loss_rules.specs.Labels.{IsReached}
use Rattle.loss_rules.specs.Rules.{DoesDuty}
use Rattle.loss_rules.proofs.Seeks.{not_true}
use Rattle.loss_rules.proofs.outputs.KeepsIfReachedRequirementMatchRule.add_lines.Goals as goal
use Rattle.loss_rules.proofs.outputs.KeepsIfReachedRequirementMatchRule.add_lines.Goals.{then-not-is_reached, else-not-is_reached}

pub returns : goal.returns
returns g c =
    let iff : IsTrue c.if-not-is_reached.kept ↔ (IsReached c.args.self.now.reaches.now c.args.at.place c.args.at.scope c.args.at.rule → DoesDuty c.args.self.now.duty c.args.found.now) = elim c.if-not-is_reached.branch [
      | then-not-is_reached w ↦ rw (w.kept-is, w.if-not-is_reached.true) (λ _ r. absurd (not_true (w.if-not-is_reached.ensures.1 r)), λ _. refl)
      | else-not-is_reached w ↦ rw w.kept-is (let e = w.does_duty-kept.ensures in (λ t _. e.0 t, λ h. e.1 (h (w.if-not-is_reached.ensures.0 refl))))
    ] in
    added_unless c.add_unless.result (IsReached c.args.self.now.reaches.now c.args.at.place c.args.at.scope c.args.at.rule → DoesDuty c.args.self.now.duty c.args.found.now) c.if-not-is_reached.kept c.args.found.now.line _ _ iff c.add_unless.ensures
