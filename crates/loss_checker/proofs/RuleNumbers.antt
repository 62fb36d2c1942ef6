-- Rules go by their numbers.
use Rattle.std.proofs.Common.{◌≡◌, ◌<◌, ◌+◌, ℕ, List, sym, subst, arith}
use Rattle.std.specs.Prelude.{◌⊎◌}
use Rattle.std.proofs.Common.{inl, inr}
use Rattle.std.proofs.lemmas.Bool.{cases_lt}
use Rattle.loss_rules.specs.Breaks.{Subject, IsKept, rule_number}
use Rattle.relay_net.specs.Network.{Network}
use Rattle.loss_rules.specs.declared.label.Label.{Label}
use Rattle.loss_rules.specs.declared.label.Reach.{Reach}
use Rattle.loss_rules.specs.declared.answer.Rule.{Rule}
use Rattle.loss_rules.specs.declared.answer.Rule.TheVariants as rule
use Rattle.loss_rules.proofs.RuleNumbers.{same_number}
use Rattle.loss_checker.specs.Kept.{AreKeptBefore}

-- no rule stands before the first
pub none_before : {A : Type 0} (s : Subject A) → AreKeptBefore s 1
none_before s rule.AddressesAreDistinct lt = absurd (omega arith)
none_before s rule.ServersAreSources lt = absurd (omega arith)
none_before s rule.ClientsAreLabelled lt = absurd (omega arith)
none_before s rule.LabelsAreMatched lt = absurd (omega arith)
none_before s rule.ReachesCover lt = absurd (omega arith)
none_before s rule.ReachedMatchesKeep lt = absurd (omega arith)
none_before s rule.RelabelsAreLabelled lt = absurd (omega arith)
none_before s rule.ForwardsAreLabelled lt = absurd (omega arith)
none_before s rule.PathsAreDistinct lt = absurd (omega arith)
none_before s rule.NoRelabelCycle lt = absurd (omega arith)

pub below_or_at : (m n : ℕ) → m < n + 1 → (m < n) ⊎ (m ≡ n)
below_or_at m n lt = elim (cases_lt m n) [ inl below ↦ inl below | inr above ↦ inr (omega arith) ]

-- a rule that holds goes behind those before it
pub one_more : {A : Type 0} (s : Subject A) (r : Rule) → AreKeptBefore s (rule_number r) → IsKept s r → AreKeptBefore s (rule_number r + 1)
one_more s r before kept other lt =
    elim (below_or_at (rule_number other) (rule_number r) lt) [
      | inl below ↦ before other below
      | inr same ↦ subst (IsKept s) (same_number r other (sym same)) kept
    ]

-- all rules hold
pub all_kept : {A : Type 0} (s : Subject A) → AreKeptBefore s 11 → (r : Rule) → IsKept s r
all_kept s before rule.AddressesAreDistinct = before rule.AddressesAreDistinct (omega arith)
all_kept s before rule.ServersAreSources = before rule.ServersAreSources (omega arith)
all_kept s before rule.ClientsAreLabelled = before rule.ClientsAreLabelled (omega arith)
all_kept s before rule.LabelsAreMatched = before rule.LabelsAreMatched (omega arith)
all_kept s before rule.ReachesCover = before rule.ReachesCover (omega arith)
all_kept s before rule.ReachedMatchesKeep = before rule.ReachedMatchesKeep (omega arith)
all_kept s before rule.RelabelsAreLabelled = before rule.RelabelsAreLabelled (omega arith)
all_kept s before rule.ForwardsAreLabelled = before rule.ForwardsAreLabelled (omega arith)
all_kept s before rule.PathsAreDistinct = before rule.PathsAreDistinct (omega arith)
all_kept s before rule.NoRelabelCycle = before rule.NoRelabelCycle (omega arith)

-- what holds of a plan's parts as they are lent holds of the plan
pub in_plan : {A : Type 0} (plan : Subject A) (net : Network A) (labels : List (Label A)) (reaches : List (Reach A))
    → net ≡ plan.net → labels ≡ plan.labels → reaches ≡ plan.reaches → (P : Subject A → Type 0) → P (record plan { net = net; labels = labels; reaches = reaches }) → P plan
in_plan {A} plan net labels reaches n l r P h =
    subst (λ (x : List (Reach A)). P (record plan { net = plan.net; labels = plan.labels; reaches = x })) r
    (subst (λ (x : List (Label A)). P (record plan { net = plan.net; labels = x; reaches = reaches })) l
    (subst (λ (x : Network A). P (record plan { net = x; labels = labels; reaches = reaches })) n h))
