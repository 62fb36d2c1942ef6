-- The plan that texts say, at whose named matches events may be let go.
use Rattle.std.specs.Prelude.{◌≡◌, ℕ, List, []}
use Rattle.loss_rules.specs.Breaks.{Subject}
use Rattle.plan_lines.specs.Faults.{IsRefusal}
use Rattle.plan_lines.specs.Plans.{IsPlanOf}
use Rattle.label_plan.specs.Drops.{LetsGo, IsRefused}
use Rattle.label_plan.specs.declared.error.DropError.{DropError}
use Rattle.label_plan.specs.declared.error.DroppedPlanError.{DroppedPlanError}
use Rattle.label_plan.specs.declared.error.DroppedPlanError.TheVariants as error
use Rattle.label_plan.specs.declared.name.DropName.{DropName}

-- At the named matches of the plan events are let go; where there are no names, it is as it was.
pub record IsDropped {A : Type 0} (before : Subject A) (names : List DropName)
    (after : Subject A) : Type 0 where
  pub lets_go : LetsGo before names after
  pub unchanged : names ≡ [] → after ≡ before

-- The texts say a plan, and at its named matches events are let go.
pub record IsDroppedPlanOf {A : Type 0} (text : List ℕ) (confs : List (List ℕ))
    (names : List DropName) (plan : Subject A) : Type 0 where
  pub before : Subject A
  pub was : IsPlanOf text confs before
  pub dropped : IsDropped before names plan

-- A name means no match of the plan that the texts say, or memory ran out.
abbrev pub IsNoDrop : (A : Type 0) → List ℕ → List (List ℕ) → List DropName → DropError → Type 0
IsNoDrop A text confs names why = (plan : Subject A) × IsPlanOf text confs plan
    × IsRefused plan.net names why

-- why texts and names are no such plan
abbrev pub IsNoDroppedPlan : (A : Type 0) → List ℕ → List (List ℕ) → List DropName
    → DroppedPlanError → Type 0
IsNoDroppedPlan A text confs names (error.Plan fault) = IsRefusal A text confs fault
IsNoDroppedPlan A text confs names (error.Drop why) = IsNoDrop A text confs names why
