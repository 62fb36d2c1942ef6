use Rattle.std.proofs.Common.{arith}
use Rattle.step_lines.proofs.NoSteps.{not_three}
use Rattle.step_lines.proofs.lines.name_of.Goals as goal

pub returns-in_default-clause-none : goal.returns-in_default-clause-none
returns-in_default-clause-none c = λ name. not_three c.args.parts.now name.relay name.buffer name.serial (λ e. (let less = c.in_default.len_below in absurd (omega (arith, less, e))))

pub returns-in_default-2-clause-none : goal.returns-in_default-2-clause-none
returns-in_default-2-clause-none c = λ name. not_three c.args.parts.now name.relay name.buffer name.serial (λ e. (let more = c.in_default.len_at_least in absurd (omega (arith, more, e))))
