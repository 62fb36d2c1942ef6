use Rattle.step_lines.proofs.NoSteps.{no_short}
use Rattle.step_lines.proofs.lines.short_step.Goals as goal

pub returns-in_default-2-clause-none : goal.returns-in_default-2-clause-none
returns-in_default-2-clause-none g c =
    let none = c.in_ok-chunk.ensures.none in
    let no_name = rw c.in_default-2.is at none in
    no_short _ _ c.in_default.ensures.none (λ chunk is. absurd (no_name chunk is))
