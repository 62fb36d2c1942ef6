use Rattle.step_lines.proofs.OneText.{one_reading, one_fault, faultless}
use Rattle.step_lines.proofs.laws.each_text_has_one_reading.Goals as goal

pub returns : goal.returns
returns g c = record {
  reading = one_reading;
  fault = one_fault;
  faultless = faultless;
}
