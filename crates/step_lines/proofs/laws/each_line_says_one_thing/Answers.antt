use Rattle.step_lines.proofs.OneReading.{one_step, no_step_too}
use Rattle.step_lines.proofs.laws.each_line_says_one_thing.Goals as goal

pub returns : goal.returns
returns g c = record {
  step = λ line a b h k. one_step _ a b h.1 k.1;
  nothing = λ line a h k. no_step_too _ a h.1 k.1;
}
