-- What holds of each plan's text, whatever a reader does.
use Rattle.std.specs.Prelude.{◌≡◌, ◌≢◌, ℕ, List}
use Rattle.loss_rules.specs.Breaks.{Subject}
use Rattle.plan_lines.specs.Faults.{IsRefusal}
use Rattle.plan_lines.specs.Meanings.{plan_view}
use Rattle.plan_lines.specs.Plans.{IsPlanOf}
use Rattle.plan_lines.specs.declared.error.PlanError.{PlanError}
use Rattle.plan_lines.specs.declared.error.PlanError.TheVariants as error

-- A text, with the configurations that it names, says one plan alone, but for where it lies in
-- memory.
abbrev pub SaysOnePlan : Type 0 → Type 0 → Type 0
SaysOnePlan A B = (text : List ℕ) (confs : List (List ℕ)) (one : Subject A) (other : Subject B)
    → IsPlanOf text confs one → IsPlanOf text confs other → plan_view one ≡ plan_view other

-- A text has one first fault alone, beside want of memory.
abbrev pub HasOneFault : Type 0 → Type 0 → Type 0
HasOneFault A B = (text : List ℕ) (confs : List (List ℕ)) (one other : PlanError)
    → one ≢ error.Memory → other ≢ error.Memory → IsRefusal A text confs one
    → IsRefusal B text confs other → one ≡ other

-- A text that says a plan has no fault: it is refused only for want of memory.
abbrev pub IsPlanOrFault : Type 0 → Type 0 → Type 0
IsPlanOrFault A B = (text : List ℕ) (confs : List (List ℕ)) (plan : Subject A) (fault : PlanError)
    → IsPlanOf text confs plan → IsRefusal B text confs fault → fault ≡ error.Memory
