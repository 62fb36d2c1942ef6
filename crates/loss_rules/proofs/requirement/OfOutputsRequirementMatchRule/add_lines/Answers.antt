use Rattle.std.proofs.Common.{List, refl, subst, arith}
use Rattle.relay_conf.specs.declared.output.Output.{Output}
use Rattle.std.proofs.lemmas.Option.{slice_get_read}
use Rattle.loss_rules.specs.Lines.{Adds, KeptInList, BrokenInList}
use Rattle.loss_rules.proofs.Lines.{one_more, all_of}
use Rattle.loss_rules.proofs.requirement.OfOutputsRequirementMatchRule.add_lines.Goals as goal

pub loop-output-preserved : goal.loop-output-preserved
loop-output-preserved g c = one_more (λ output other. g.R.Requirement.keeps c.args.self.now.0 (record c.args.at { output = output }) other) (λ output other line. g.R.Requirement.breaks c.args.self.now.0 (record c.args.at { output = output }) other line) c.deref-other-items.result.now c.loop-output.output c.other-item.result _ _ _ (slice_get_read c.deref-other-items.result.now _ c.loop-output.output c.other-item.result refl (omega arith) c.other-item.is) c.loop-output.invariant c.in_ok-add_lines.ensures

pub returns : goal.returns
returns g c =
    let P : List (Output g.row.A.Denot) → Type 0 = λ xs. Adds (KeptInList (λ output other. g.R.Requirement.keeps c.args.self.now.0 (record c.args.at { output = output }) other) xs) (BrokenInList (λ output other line. g.R.Requirement.breaks c.args.self.now.0 (record c.args.at { output = output }) other line) xs) c.args.lines.now.items c.loop-output.lines.items in
    subst P c.deref-other-items.ensures.value (all_of (λ output other. g.R.Requirement.keeps c.args.self.now.0 (record c.args.at { output = output }) other) (λ output other line. g.R.Requirement.breaks c.args.self.now.0 (record c.args.at { output = output }) other line) c.deref-other-items.result.now c.loop-output.output _ _ (omega arith) c.loop-output.invariant)
