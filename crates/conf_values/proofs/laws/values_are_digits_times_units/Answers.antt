use Rattle.conf_values.specs.Amounts.{size_factor, time_factor}
use Rattle.conf_values.proofs.Amounts.{size_table, time_table, amount_from, amount_to}
use Rattle.conf_values.proofs.laws.values_are_digits_times_units.Goals as goal

pub returns-clause-sizes : goal.returns-clause-sizes
returns-clause-sizes c = λ text n. (amount_from size_factor text n, amount_to size_factor size_table text n)

pub returns-clause-times : goal.returns-clause-times
returns-clause-times c = λ text n. (amount_from time_factor text n, amount_to time_factor time_table text n)
