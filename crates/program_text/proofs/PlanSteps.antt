-- From what is read of a plan to what stops it.
use Rattle.std.proofs.Common.{◌≡◌, ℕ, List, sym, ◌∙◌, subst}
use Rattle.std.specs.Prelude.{Option}
use Rattle.std.specs.Borrow.{Bor}
use Rattle.std.specs.List.{AllZip}
use Rattle.plan_lines.proofs.LinesRead.{bytes_of}
pub use Rattle.plan_lines.proofs.LinesRead.{bytes_of as bytes}
use Rattle.plan_lines.specs.Forms.{confs_named}
use Rattle.plan_lines.specs.declared.error.PlanError.{PlanError}
use Rattle.program_text.specs.declared.plan_text.PlanStop.{PlanStop}
use Rattle.program_text.specs.declared.plan_text.PlanStop.TheVariants as stop
use Rattle.program_text.specs.Plans.{AreRead, IsRefusedPlan, IsPlanStop, StopsWith}
use Rattle.program_text.specs.Texts.{IsTextOf}

-- the texts were read by the names in the plan's text
pub are_read : (net : Option (List ℕ)) (named : List ℕ → Option (List ℕ)) (text : List ℕ) (names : List (Bor (List ℕ))) (confs : List (List ℕ))
    → IsTextOf net text → bytes_of names ≡ confs_named text → AllZip (λ name conf. IsTextOf (named name) conf) (bytes_of names) confs → AreRead net named text confs
are_read net named text names confs net_is is zip = record {
  net_is = net_is;
  confs_are = subst (λ (n : List (List ℕ)). AllZip (λ name conf. IsTextOf (named name) conf) n confs) is zip;
}

-- a plan that is refused stops with its fault
pub refused_stop : (A : Type 0) (net : Option (List ℕ)) (named : List ℕ → Option (List ℕ)) (fault : PlanError) (stopped : PlanStop)
    → IsRefusedPlan A net named fault → StopsWith fault stopped → IsPlanStop A net named stopped
refused_stop A net named fault (stop.Plan other) refused is = (subst (IsRefusedPlan A net named) (sym is.0) refused, λ e. is.1 (sym is.0 ∙ e))
refused_stop A net named fault (stop.Unread cause) refused is = tt
