use Rattle.conf_text.proofs.Whole.{one_reading, one_fault, faultless, one_or_other}
use Rattle.conf_text.proofs.laws.each_text_has_one_reading.Goals as goal

pub returns-clause-reading : goal.returns-clause-reading
returns-clause-reading c = one_reading

pub returns-clause-fault : goal.returns-clause-fault
returns-clause-fault c = one_fault

pub returns-clause-faultless : goal.returns-clause-faultless
returns-clause-faultless c = faultless

pub returns-clause-one : goal.returns-clause-one
returns-clause-one c = one_or_other
