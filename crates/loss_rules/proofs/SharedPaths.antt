-- Outputs that share a path.
use Rattle.std.proofs.Common.{◌≡◌, ℕ, ◌<◌, sym, arith, ◌⊎◌, inl, inr}
use Rattle.std.proofs.lemmas.Bool.{cases_lt}
use Rattle.relay_conf.specs.declared.output.Output.{Output}
use Rattle.relay_net.specs.Network.{Network}
use Rattle.loss_rules.specs.Breaks.{IsFirstOfPath}
use Rattle.loss_rules.specs.Rules.{SharePath, PathsAreDistinct}
use Rattle.loss_rules.specs.Sites.{EachOutput, line_of}

-- numbers are equal or not
equal_or_not : (m n : ℕ) → (m ≡ n) ⊎ (¬ (m ≡ n))
equal_or_not m n = elim (cases_lt m n) [
  | inl less ↦ inr (λ e. absurd (omega (arith, e)))
  | inr past ↦ elim (cases_lt n m) [ inl more ↦ inr (λ e. absurd (omega (arith, e))) | inr above ↦ inl (omega arith) ]
]

-- outputs share a path with each other
share_back : {A : Type 0} (one two : Output A) → SharePath one two → SharePath two one
share_back one two (path, inl h) = (path, inl (h.1, h.0))
share_back one two (path, inr h) = (path, inr (h.1, h.0))

-- where each output is the first with its paths, no two share one: of two each would stand behind
-- the other
pub firsts_are_distinct : {A : Type 0} (net : Network A) → EachOutput net (IsFirstOfPath net) → PathsAreDistinct net
firsts_are_distinct net first place scope rule output found at s r o other there share = by (equal_or_not s scope) (equal_or_not r rule) (equal_or_not o output)
  where
    clash : ¬ (¬ ((s ≡ scope) × (r ≡ rule) × (o ≡ output)))
    clash not =
        let behind : line_of found < line_of other = first place scope rule output found at s r o other there not share in
        let before : line_of other < line_of found = first place s r o other there scope rule output found at (λ same. not (sym same.0, sym same.1, sym same.2)) (share_back other found share) in
        absurd (omega (arith, behind, before))

    by : ((s ≡ scope) ⊎ (¬ (s ≡ scope))) → ((r ≡ rule) ⊎ (¬ (r ≡ rule))) → ((o ≡ output) ⊎ (¬ (o ≡ output))) → (s ≡ scope) × (r ≡ rule) × (o ≡ output)
    by (inl e) (inl f) (inl g) = (e, f, g)
    by (inr n) f g = absurd (clash (λ same. n same.0))
    by (inl e) (inr n) g = absurd (clash (λ same. n same.1))
    by (inl e) (inl f) (inr n) = absurd (clash (λ same. n same.2))

-- where no two share a path, each output is the first with its own
pub distinct_are_first : {A : Type 0} (net : Network A) → PathsAreDistinct net → EachOutput net (IsFirstOfPath net)
distinct_are_first net distinct place scope rule output found at s r o other there not share = absurd (not (distinct place scope rule output found at s r o other there share))
