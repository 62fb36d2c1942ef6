-- That a relay's line is refused for its configuration, or for want of memory.
use Rattle.std.proofs.Common.{◌≡◌, ℕ, List, length, slice_get, Some, Result, Ok, Err, sym, subst}
use Rattle.std.specs.Prelude.{IfErr}
use Rattle.std.specs.Result.{IsErrAnd}
use Rattle.loss_rules.specs.Breaks.{Subject}
use Rattle.plan_lines.specs.declared.error.PlanError.{PlanError}
use Rattle.plan_lines.specs.declared.error.PlanError.TheVariants as error
use Rattle.plan_lines.specs.Faults.{IsTextFault, Refuses}
use Rattle.plan_lines.specs.Forms.{a_relay, relay_number}
use Rattle.plan_lines.proofs.OneRefusal.{not_both}

module _ {A : Type 0} (confs : List (List ℕ)) (line : ℕ) (number host folder text : List ℕ) (n : ℕ) (plan : Subject A) (number_is : relay_number number ≡ Some n) (text_is : slice_get confs (length plan.net.relays) ≡ Some text) where
  -- a fault of the configuration that stands at the relay's place is one of the line
  text_refused : (e : PlanError) → IsTextFault line text e → (conf : List ℕ) → Refuses confs line (a_relay number host folder conf) plan e
  text_refused (error.BadLine m) h conf = absurd h
  text_refused (error.BadNumber m) h conf = absurd h
  text_refused (error.BadPattern m) h conf = absurd h
  text_refused (error.NoSuch m) h conf = absurd h
  text_refused (error.BadText m fault) h conf = (h.0, (λ none. not_both n (relay_number number) none number_is), (text, text_is, h.1))
  text_refused (error.BadRelay m fault) h conf = (h.0, (λ none. not_both n (relay_number number) none number_is), (text, text_is, h.1))
  text_refused error.Memory h conf = tt

  -- the same of what is handed on
  pub text_refused_as : {T : Type 0} (r : Result T PlanError) (e : PlanError) → IsErrAnd r (λ x. x ≡ e) → IsTextFault line text e → IfErr r (λ x. (conf : List ℕ) → Refuses confs line (a_relay number host folder conf) plan x)
  text_refused_as (Ok x) e same h = tt
  text_refused_as (Err x) e same h = λ conf. subst (λ y. Refuses confs line (a_relay number host folder conf) plan y) (sym same) (text_refused e h conf)

-- that want of memory refuses it
pub full : {A T : Type 0} (confs : List (List ℕ)) (line : ℕ) (number host folder : List ℕ) (plan : Subject A) (r : Result T PlanError) → IsErrAnd r (λ x. x ≡ error.Memory) → IfErr r (λ x. (conf : List ℕ) → Refuses confs line (a_relay number host folder conf) plan x)
full confs line number host folder plan (Ok x) same = tt
full confs line number host folder plan (Err x) same = λ conf. subst (λ y. Refuses confs line (a_relay number host folder conf) plan y) (sym same) tt
