-- The plan that a text says itself is asked.
use Rattle.std.proofs.Common.{◌≡◌, List, ℕ, Bool, false, subst, sym}
use Rattle.label_plan.specs.Plans.{IsDroppedPlanOf}
use Rattle.label_plan.specs.declared.name.DropName.{DropName}
use Rattle.loss_checker.specs.Broken.{AreBrokenRules}
use Rattle.loss_checker.specs.declared.broken.BrokenRule.{BrokenRule}
use Rattle.loss_rules.specs.Breaks.{Subject}
use Rattle.label_plan.specs.Checks.{IsAsked, IsLabelledCheck}

-- the given text is asked, where none is labelled
pub asked_as_given : (A : Type 0) (confs : List (List ℕ)) (names : List DropName) (given text : List ℕ) (is_labelled : Bool) (plan found : Subject A) (broken : List (BrokenRule A))
    → IsDroppedPlanOf given confs names plan → is_labelled ≡ false → text ≡ given → found ≡ plan → AreBrokenRules plan broken → IsLabelledCheck A confs names given is_labelled text found broken
asked_as_given A confs names given text is_labelled plan found broken said none same is are = record {
  asked = subst (λ (b : Bool). IsAsked A confs names given b text) (sym none) same;
  checked = record {
    plan_is = subst (λ (t : List ℕ). IsDroppedPlanOf t confs names found) (sym same) (subst (λ (p : Subject A). IsDroppedPlanOf given confs names p) (sym is) said);
    broken_are = subst (λ (p : Subject A). AreBrokenRules p broken) (sym is) are;
  };
}
