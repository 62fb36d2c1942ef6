use Rattle.label_plan.specs.Labelling.{IsLabelledDropping}
use Rattle.plan_lines.specs.Plans.{texts}
use Rattle.label_plan.proofs.Nones.{of_mapped}
use Rattle.label_plan.proofs.labelled.labelled_dropping.Goals as goal

pub returns-then-is_some : goal.returns-then-is_some
returns-then-is_some g c = of_mapped (λ found. found.text) (λ text. IsLabelledDropping _ (texts c.args.confs.now) c.args.drops.now c.args.net.now text.items) _ c.text_of.result c.text_of.ensures c.in_ok-narrow.ensures

pub returns : goal.returns
returns g c = of_mapped (λ found. found.text) (λ text. IsLabelledDropping _ (texts c.args.confs.now) c.args.drops.now c.args.net.now text.items) _ c.text_of-2.result c.text_of-2.ensures c.in_ok-wide.ensures
