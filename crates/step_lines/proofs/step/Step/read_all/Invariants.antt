use Rattle.std.proofs.Common.{List, ℕ, map, take}
use Rattle.std.specs.Borrow.{Bor}
use Rattle.step_lines.specs.StepLines.{SayAll}
use Rattle.step_lines.proofs.step.Step.read_all.Given as goal

abbrev pub invariant-loop-at : goal.invariant-loop-at
invariant-loop-at g l = SayAll (take l.at (map (λ (line : Bor (List ℕ)). line.now) l.line-items)) l.steps.items
