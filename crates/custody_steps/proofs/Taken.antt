-- What a step answers that is allowed, and that only memory may refuse; and what an answer says.
use Rattle.std.proofs.Common.{◌≡◌, Result, Ok, Err, OnOk, OnErr}
use Rattle.std.specs.Prelude.{IfErr}
use Rattle.relay_net.specs.Network.{Network}
use Rattle.step_lines.specs.declared.step.Step.{Step}
use Rattle.custody_steps.specs.Steps.{Answer, Answers, IsRefused, rule_of_step}
use Rattle.custody_steps.specs.World.{World}
use Rattle.custody_steps.specs.declared.fault.StepFault.{StepFault}
use Rattle.custody_steps.specs.declared.fault.StepFault.TheVariants as fault

pub taken_or_full : (r : Result (Unit {0}) StepFault) (names allowed known : Type 0) (before after effect : World) → names → allowed → known → OnOk r (after ≡ effect) → IfErr r (λ e. (e ≡ fault.Memory) × (after ≡ before)) → Answer names allowed known before after effect r
taken_or_full (Ok done) names allowed known before after effect n a k ok err = (n, a, ok)
taken_or_full (Err fault.NoSuch) names allowed known before after effect n a k ok err = absurd (let clash : fault.NoSuch ≡ fault.Memory = err.0 in cc)
taken_or_full (Err fault.NotAllowed) names allowed known before after effect n a k ok err = absurd (let clash : fault.NotAllowed ≡ fault.Memory = err.0 in cc)
taken_or_full (Err fault.Memory) names allowed known before after effect n a k ok err = (n, k, err.1)

-- What an answer to a step says where the step was taken, where it was refused, and of what a refusal leaves.
module _ {A : Type 0} (net : Network A) (before : World) (s : Step A) (after : World) where
  pub taken_so : (r : Result (Unit {0}) StepFault) → Answers net before s after r → OnOk r ((rule_of_step net before s).names × (rule_of_step net before s).allowed × (after ≡ (rule_of_step net before s).after))
  taken_so (Ok done) h = h
  taken_so (Err fault) h = _

  pub refused_so : (r : Result (Unit {0}) StepFault) → Answers net before s after r → IfErr r (IsRefused net before s)
  refused_so (Ok done) h = _
  refused_so (Err fault.NoSuch) h = h.0
  refused_so (Err fault.NotAllowed) h = (h.0, h.1)
  refused_so (Err fault.Memory) h = (h.0, h.1)

  pub unchanged_so : (r : Result (Unit {0}) StepFault) → Answers net before s after r → OnErr r (after ≡ before)
  unchanged_so (Ok done) h = _
  unchanged_so (Err fault.NoSuch) h = h.1
  unchanged_so (Err fault.NotAllowed) h = h.2
  unchanged_so (Err fault.Memory) h = h.2
