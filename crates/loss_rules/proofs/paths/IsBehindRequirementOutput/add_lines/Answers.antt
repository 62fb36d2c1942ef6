use Rattle.loss_rules.proofs.Lines.{added_unless}
use Rattle.loss_rules.specs.Lines.{StandsBehind}
use Rattle.loss_rules.proofs.paths.IsBehindRequirementOutput.add_lines.Goals as goal

pub returns : goal.returns
returns g c = added_unless c.add_unless.result (StandsBehind c.args.self.now.at c.args.self.now.found.now c.args.at c.args.found.now) c.is_behind.result _ _ _ c.is_behind.ensures (rw c.line_of.ensures at c.add_unless.ensures)
