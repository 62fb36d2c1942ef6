use Rattle.std.proofs.Common.{ℕ, List, IfNone, ap, map, subst, ◌∙◌}
use Rattle.std.specs.Borrow.{Bor}
use Rattle.step_lines.specs.declared.step.ChunkName.{ChunkName}
use Rattle.std.specs.List.{AllZip}
use Rattle.step_lines.specs.Laws.{numbers_of}
use Rattle.step_lines.specs.StepLines.{IsNumber}
use Rattle.step_lines.proofs.lines.chunk_name.Goals as goal

pub returns-clause-none : goal.returns-clause-none
returns-clause-none g c =
    subst (λ parts. IfNone c.name_of.result ((name : ChunkName) → ¬ (AllZip IsNumber parts (numbers_of name))))
    (ap (λ parts. map (λ (part : Bor (List ℕ)). part.now) parts) c.as_slice.ensures.value ∙ c.in_ok-parts.ensures)
    c.name_of.ensures.none
