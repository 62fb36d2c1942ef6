use Rattle.std.proofs.Common.{◌∙◌}
use Rattle.conf_values.proofs.Amounts.{amount_nil}
use Rattle.conf_values.proofs.amount.amount.Goals as goal

pub returns-in_err-letter : goal.returns-in_err-letter
returns-in_err-letter c = c.from_residual.ensures ∙ amount_nil c.args.units c.args.text.now c.in_err-letter.ensures.cases
