use Rattle.conf_text.proofs.Spelled.{single_keeps, double_keeps}
use Rattle.conf_text.proofs.laws.quotes_keep_values.Goals as goal

pub returns-clause-single : goal.returns-clause-single
returns-clause-single c = single_keeps

pub returns-clause-double : goal.returns-clause-double
returns-clause-double c = double_keeps
