use Rattle.std.specs.Prelude.{◌≡◌}
use Rattle.loss_rules.specs.Rules.{PathsAreDistinct}
use Rattle.plan_lines.specs.Parts.{plan_of, IsWhole}
use Rattle.label_plan.specs.OneByOne.{LetsSoManyGo}
use Rattle.label_plan.proofs.drops.with_drops.Given as goal

abbrev pub invariant-loop-at : goal.invariant-loop-at
invariant-loop-at g l = record { so_far : LetsSoManyGo (plan_of l.fn.parts) l.drops l.at (plan_of l.changed); unchanged : l.at ≡ 0 → plan_of l.changed ≡ plan_of l.fn.parts; whole : IsWhole (plan_of l.changed); paths : PathsAreDistinct (plan_of l.fn.parts).net → PathsAreDistinct (plan_of l.changed).net }
