use Rattle.plan_lines.specs.Plans.{texts}
use Rattle.label_plan.proofs.Dropless.{all_kept}
use Rattle.label_plan.proofs.labelled.labelled_text.Goals as goal

pub returns-clause-labelled : goal.returns-clause-labelled
returns-clause-labelled g c = all_kept (texts c.args.confs.now) c.args.net.now _ c.in_ok-labelled_dropping.ensures
