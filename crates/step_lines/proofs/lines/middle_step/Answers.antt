use Rattle.step_lines.proofs.NoSteps.{other_word, no_middle}
use Rattle.step_lines.proofs.lines.middle_step.Goals as goal

pub returns-in_default-clause-none : goal.returns-in_default-clause-none
returns-in_default-clause-none g c =
    let none = c.in_ok-chunk.ensures.none in
    let no_name = rw c.in_default.is at none in
    λ other. no_middle _ _ _ other (λ same. absurd (other_word c.is_word.ensures c.if-is_word.false same)) (λ chunk is n number. absurd (no_name chunk is))
