use Rattle.std.proofs.Common.{List, ℕ, map, take}
use Rattle.std.specs.Borrow.{Bor}
use Rattle.plan_lines.specs.Drafts.{draft_of}
use Rattle.plan_lines.specs.Plans.{Say, texts}
use Rattle.plan_lines.proofs.parts.PlanParts.read.Given as goal

abbrev pub invariant-loop-at : goal.invariant-loop-at
invariant-loop-at g l = Say (texts l.confs) (take l.at (map (λ (line : Bor (List ℕ)). line.now) l.all)) (draft_of l.draft)
