-- That a plan has one answer.
use Rattle.std.proofs.Common.{◌≡◌, ℕ, ◌<◌, List, slice_get, refl, sym, ap, subst, ◌∙◌, arith, inl, inr}
use Rattle.std.proofs.lemmas.Bool.{cases_lt}
use Rattle.std.proofs.lemmas.Option.{same_Some}
use Rattle.relay_net.specs.Network.{Network}
use Rattle.loss_rules.specs.Breaks.{Subject, IsFirstLine, asked_in_conf, asked_in_plan, BreaksAtSource, IsFirstTwice, IsKept, IsBrokenAt, IsAnswer, rule_number}
use Rattle.loss_rules.specs.Rules.{RelayIsNew, AddressesAreDistinct}
use Rattle.loss_rules.specs.declared.answer.Answer.TheVariants as answer
use Rattle.loss_rules.specs.declared.answer.Place.{Place}
use Rattle.loss_rules.specs.declared.answer.Place.TheVariants as place
use Rattle.loss_rules.specs.declared.answer.Rule.{Rule}
use Rattle.loss_rules.specs.declared.answer.Rule.TheVariants as rule
use Rattle.loss_rules.specs.declared.label.RelayLine.{RelayLine}
use Rattle.loss_rules.specs.Laws.{HasOneAnswer}
use Rattle.loss_rules.proofs.FirstPlaces.{IsInConf, IsInPlan}
use Rattle.loss_rules.proofs.RuleNumbers.{same_number}

-- two numbers, neither of which is less than the other
neither_less : (m n : ℕ) → ¬ (m < n) → ¬ (n < m) → m ≡ n
neither_less m n not_less not_more = elim (cases_lt m n) [
  | inl less ↦ absurd (not_less less)
  | inr past ↦ elim (cases_lt n m) [ inl less ↦ absurd (not_more less) | inr above ↦ omega arith ]
]

-- there is one least number of which this holds
same_least : (B : ℕ → Type 0) (m n : ℕ) → B m → ((l : ℕ) → l < m → ¬ B l) → B n → ((l : ℕ) → l < n → ¬ B l) → m ≡ n
same_least B m n at_m before_m at_n before_n = neither_less m n (λ less. before_n m less at_m) (λ less. before_m n less at_n)

-- places of configurations are one where their relays and lines are
same_conf : (r q l m : ℕ) → r ≡ q → l ≡ m → place.Conf r l ≡ place.Conf q m
same_conf r q l m relay line = ap (λ x. place.Conf x l) relay ∙ ap (λ x. place.Conf q x) line

-- the relay in which something is broken first
same_relay : (B : ℕ → ℕ → Type 0) (p l q m : ℕ) → IsFirstLine B p l → IsFirstLine B q m → p ≡ q
same_relay B p l q m h k = neither_less p q (λ less. k.relays_before p l less h.breaks) (λ less. h.relays_before q m less k.breaks)

module _ {A : Type 0} where
  -- Something is broken first at a place of the plan, or of the configurations.
  module _ (net : Network A) (B : ℕ → Type 0) (C : ℕ → ℕ → Type 0) (Is : Place → Type 0)
      (in_plan : (line : ℕ) → Is (place.Plan line) → IsInPlan B (place.Plan line)) (in_conf : (relay line : ℕ) → Is (place.Conf relay line) → IsInConf net C (place.Conf relay line)) where
    -- what is kept everywhere is broken nowhere
    nowhere : ((line : ℕ) → ¬ B line) → ((p line : ℕ) → ¬ C p line) → (at : Place) → ¬ Is at
    nowhere kept all_kept (place.Plan line) h = kept line (in_plan line h).0
    nowhere kept all_kept (place.Conf relay line) h = let is = in_conf relay line h in all_kept is.0 line is.4.breaks

    -- what is broken only in the plan is so first at one place
    once_in_plan : ((p line : ℕ) → ¬ C p line) → (a b : Place) → Is a → Is b → a ≡ b
    once_in_plan kept (place.Plan m) (place.Plan n) h k = let here = in_plan m h in let there = in_plan n k in ap (λ l. place.Plan l) (same_least B m n here.0 here.1 there.0 there.1)
    once_in_plan kept (place.Plan m) (place.Conf relay line) h k = absurd (let is = in_conf relay line k in kept is.0 line is.4.breaks)
    once_in_plan kept (place.Conf relay line) b h k = absurd (let is = in_conf relay line h in kept is.0 line is.4.breaks)

    -- and what is broken only in configurations
    once_in_conf : ((line : ℕ) → ¬ B line) → (a b : Place) → Is a → Is b → a ≡ b
    once_in_conf kept (place.Plan line) b h k = absurd (kept line (in_plan line h).0)
    once_in_conf kept (place.Conf r l) (place.Plan line) h k = absurd (kept line (in_plan line k).0)
    once_in_conf kept (place.Conf r l) (place.Conf q m) h k = by (in_conf r l h) (in_conf q m k)
      where
        by : IsInConf net C (place.Conf r l) → IsInConf net C (place.Conf q m) → place.Conf r l ≡ place.Conf q m
        by (p, node, is, number, first) (p2, node2, is2, number2, first2) =
            let relay_same : p ≡ p2 = same_relay C p l p2 m first first2 in
            let node_same = same_Some node node2 (sym is ∙ (ap (slice_get net.relays) relay_same ∙ is2)) in
            let there : IsFirstLine C p m = subst (λ x. IsFirstLine C x m) (sym relay_same) first2 in
            same_conf r q l m (sym number ∙ (ap (λ n. n.number) node_same ∙ number2)) (same_least (C p) l m first.breaks first.lines_before there.breaks there.lines_before)

  -- a relay that isn't new, and a source that isn't, in relays before which all is new
  source_or_relay : (net : Network A) (lines : List (RelayLine A)) (m r l : ℕ) → IsFirstTwice net lines (place.Plan m) → ¬ IsFirstTwice net lines (place.Conf r l)
  source_or_relay net lines m r l (p, found, found_is, line_is, new, not) (p2, node, node_is, number, new2, relay_new, first) = elim (cases_lt p p2) [
    | inl less ↦ not (new2.relays p less)
    | inr past ↦ elim (cases_lt p2 p) [
      | inl less ↦ (let at : BreaksAtSource net p2 l = first.breaks.1 in at.4 (new.sources p2 at.0 less))
      | inr above ↦ (let same : p2 ≡ p = omega arith in not (subst (RelayIsNew net lines) same relay_new))
    ]
  ]

  -- one relay or source that isn't new first
  twice_once : (net : Network A) (lines : List (RelayLine A)) (a b : Place) → IsFirstTwice net lines a → IsFirstTwice net lines b → a ≡ b
  twice_once net lines (place.Plan m) (place.Plan n) (p, found, is, line_is, new, not) (p2, found2, is2, line_is2, new2, not2) =
      let relay_same : p ≡ p2 = neither_less p p2 (λ less. not (new2.relays p less)) (λ less. not2 (new.relays p2 less)) in
      let found_same = same_Some found found2 (sym is ∙ (ap (slice_get lines) relay_same ∙ is2)) in
      ap (λ x. place.Plan x) (sym line_is ∙ (ap (λ f. f.line) found_same ∙ line_is2))
  twice_once net lines (place.Plan m) (place.Conf r l) h k = absurd (source_or_relay net lines m r l h k)
  twice_once net lines (place.Conf r l) (place.Plan m) h k = absurd (source_or_relay net lines m r l k h)
  twice_once net lines (place.Conf r l) (place.Conf q m) (p, node, is, number, new, relay_new, first) (p2, node2, is2, number2, new2, relay_new2, first2) =
      let at : BreaksAtSource net p l = first.breaks.1 in
      let at2 : BreaksAtSource net p2 m = first2.breaks.1 in
      let relay_same : p ≡ p2 = neither_less p p2 (λ less. at.4 (new2.sources p at.0 less)) (λ less. at2.4 (new.sources p2 at2.0 less)) in
      let node_same = same_Some node node2 (sym is ∙ (ap (slice_get net.relays) relay_same ∙ is2)) in
      let there : IsFirstLine (λ x y. (x ≡ p) × BreaksAtSource net x y) p m = subst (λ z. IsFirstLine (λ x y. (x ≡ z) × BreaksAtSource net x y) z m) (sym relay_same) first2 in
      same_conf r q l m (sym number ∙ (ap (λ n. n.number) node_same ∙ number2))
      (same_least (λ y. (p ≡ p) × BreaksAtSource net p y) l m first.breaks first.lines_before there.breaks there.lines_before)

  -- where all is new nothing isn't
  never_twice : (net : Network A) (lines : List (RelayLine A)) (at : Place) → AddressesAreDistinct net lines → ¬ IsFirstTwice net lines at
  never_twice net lines (place.Plan line) kept (p, found, is, line_is, new, not) = not (kept.relays p)
  never_twice net lines (place.Conf relay line) kept (p, node, is, number, new, relay_new, first) = (let at : BreaksAtSource net p line = first.breaks.1 in at.4 (kept.sources p at.0))

  -- a rule that holds is broken nowhere
  unbroken : (s : Subject A) (r : Rule) (at : Place) → IsKept s r → ¬ IsBrokenAt s r at
  unbroken s rule.AddressesAreDistinct at kept = never_twice s.net s.relay_lines at kept
  unbroken s rule.ServersAreSources at kept = nowhere s.net (λ line. (asked_in_plan s rule.ServersAreSources line).broken) (λ p line. (asked_in_conf s rule.ServersAreSources p line).broken) (IsBrokenAt s rule.ServersAreSources) (λ line h. h) (λ relay line h. h) (λ line b. b) (λ p line b. b.2 (kept.1 p line b.0 b.1)) at
  unbroken s rule.ClientsAreLabelled at kept = nowhere s.net (λ line. (asked_in_plan s rule.ClientsAreLabelled line).broken) (λ p line. (asked_in_conf s rule.ClientsAreLabelled p line).broken) (IsBrokenAt s rule.ClientsAreLabelled) (λ line h. h) (λ relay line h. h) (λ line b. b.2 (kept.0 line b.0 b.1)) (λ p line b. b) at
  unbroken s rule.LabelsAreMatched at kept = nowhere s.net (λ line. (asked_in_plan s rule.LabelsAreMatched line).broken) (λ p line. (asked_in_conf s rule.LabelsAreMatched p line).broken) (IsBrokenAt s rule.LabelsAreMatched) (λ line h. h) (λ relay line h. h) (λ line b. b.2 (kept.0 line b.0 b.1)) (λ p line b. b) at
  unbroken s rule.ReachesCover at kept = nowhere s.net (λ line. (asked_in_plan s rule.ReachesCover line).broken) (λ p line. (asked_in_conf s rule.ReachesCover p line).broken) (IsBrokenAt s rule.ReachesCover) (λ line h. h) (λ relay line h. h) (λ line b. b.2 (kept.0 line b.0 b.1)) (λ p line b. b) at
  unbroken s rule.ReachedMatchesKeep at kept = nowhere s.net (λ line. (asked_in_plan s rule.ReachedMatchesKeep line).broken) (λ p line. (asked_in_conf s rule.ReachedMatchesKeep p line).broken) (IsBrokenAt s rule.ReachedMatchesKeep) (λ line h. h) (λ relay line h. h) (λ line b. b) (λ p line b. b.2 (kept.1 p line b.0 b.1)) at
  unbroken s rule.RelabelsAreLabelled at kept = nowhere s.net (λ line. (asked_in_plan s rule.RelabelsAreLabelled line).broken) (λ p line. (asked_in_conf s rule.RelabelsAreLabelled p line).broken) (IsBrokenAt s rule.RelabelsAreLabelled) (λ line h. h) (λ relay line h. h) (λ line b. b) (λ p line b. b.2 (kept.1 p line b.0 b.1)) at
  unbroken s rule.ForwardsAreLabelled at kept = nowhere s.net (λ line. (asked_in_plan s rule.ForwardsAreLabelled line).broken) (λ p line. (asked_in_conf s rule.ForwardsAreLabelled p line).broken) (IsBrokenAt s rule.ForwardsAreLabelled) (λ line h. h) (λ relay line h. h) (λ line b. b) (λ p line b. b.2 (kept.1 p line b.0 b.1)) at
  unbroken s rule.PathsAreDistinct at kept = nowhere s.net (λ line. (asked_in_plan s rule.PathsAreDistinct line).broken) (λ p line. (asked_in_conf s rule.PathsAreDistinct p line).broken) (IsBrokenAt s rule.PathsAreDistinct) (λ line h. h) (λ relay line h. h) (λ line b. b) (λ p line b. b.2 (kept.1 p line b.0 b.1)) at
  unbroken s rule.NoRelabelCycle at kept = nowhere s.net (λ line. (asked_in_plan s rule.NoRelabelCycle line).broken) (λ p line. (asked_in_conf s rule.NoRelabelCycle p line).broken) (IsBrokenAt s rule.NoRelabelCycle) (λ line h. h) (λ relay line h. h) (λ line b. b) (λ p line b. b.2 (kept.1 p line b.0 b.1)) at

  -- a rule is broken first at one place
  broken_once : (s : Subject A) (r : Rule) (a b : Place) → IsBrokenAt s r a → IsBrokenAt s r b → a ≡ b
  broken_once s rule.AddressesAreDistinct a b = twice_once s.net s.relay_lines a b
  broken_once s rule.ServersAreSources a b = once_in_conf s.net (λ line. (asked_in_plan s rule.ServersAreSources line).broken) (λ p line. (asked_in_conf s rule.ServersAreSources p line).broken) (IsBrokenAt s rule.ServersAreSources) (λ line h. h) (λ relay line h. h) (λ line broken. broken) a b
  broken_once s rule.ClientsAreLabelled a b = once_in_plan s.net (λ line. (asked_in_plan s rule.ClientsAreLabelled line).broken) (λ p line. (asked_in_conf s rule.ClientsAreLabelled p line).broken) (IsBrokenAt s rule.ClientsAreLabelled) (λ line h. h) (λ relay line h. h) (λ p line broken. broken) a b
  broken_once s rule.LabelsAreMatched a b = once_in_plan s.net (λ line. (asked_in_plan s rule.LabelsAreMatched line).broken) (λ p line. (asked_in_conf s rule.LabelsAreMatched p line).broken) (IsBrokenAt s rule.LabelsAreMatched) (λ line h. h) (λ relay line h. h) (λ p line broken. broken) a b
  broken_once s rule.ReachesCover a b = once_in_plan s.net (λ line. (asked_in_plan s rule.ReachesCover line).broken) (λ p line. (asked_in_conf s rule.ReachesCover p line).broken) (IsBrokenAt s rule.ReachesCover) (λ line h. h) (λ relay line h. h) (λ p line broken. broken) a b
  broken_once s rule.ReachedMatchesKeep a b = once_in_conf s.net (λ line. (asked_in_plan s rule.ReachedMatchesKeep line).broken) (λ p line. (asked_in_conf s rule.ReachedMatchesKeep p line).broken) (IsBrokenAt s rule.ReachedMatchesKeep) (λ line h. h) (λ relay line h. h) (λ line broken. broken) a b
  broken_once s rule.RelabelsAreLabelled a b = once_in_conf s.net (λ line. (asked_in_plan s rule.RelabelsAreLabelled line).broken) (λ p line. (asked_in_conf s rule.RelabelsAreLabelled p line).broken) (IsBrokenAt s rule.RelabelsAreLabelled) (λ line h. h) (λ relay line h. h) (λ line broken. broken) a b
  broken_once s rule.ForwardsAreLabelled a b = once_in_conf s.net (λ line. (asked_in_plan s rule.ForwardsAreLabelled line).broken) (λ p line. (asked_in_conf s rule.ForwardsAreLabelled p line).broken) (IsBrokenAt s rule.ForwardsAreLabelled) (λ line h. h) (λ relay line h. h) (λ line broken. broken) a b
  broken_once s rule.PathsAreDistinct a b = once_in_conf s.net (λ line. (asked_in_plan s rule.PathsAreDistinct line).broken) (λ p line. (asked_in_conf s rule.PathsAreDistinct p line).broken) (IsBrokenAt s rule.PathsAreDistinct) (λ line h. h) (λ relay line h. h) (λ line broken. broken) a b
  broken_once s rule.NoRelabelCycle a b = once_in_conf s.net (λ line. (asked_in_plan s rule.NoRelabelCycle line).broken) (λ p line. (asked_in_conf s rule.NoRelabelCycle p line).broken) (IsBrokenAt s rule.NoRelabelCycle) (λ line h. h) (λ relay line h. h) (λ line broken. broken) a b

  no_lower : (s : Subject A) (r q : Rule) (at to : Place) → IsAnswer s (answer.No r at) → IsAnswer s (answer.No q to) → ¬ (rule_number r < rule_number q)
  no_lower s r q at to h k less = unbroken s r at (k.0 r less) h.1

-- a plan has one answer
pub one_answer : {A : Type 0} → HasOneAnswer A
one_answer s answer.Yes answer.Yes h k = refl
one_answer s answer.Yes (answer.No r at) h k = absurd (unbroken s r at (h r) k.1)
one_answer s (answer.No r at) answer.Yes h k = absurd (unbroken s r at (k r) h.1)
one_answer s (answer.No r at) (answer.No q to) h k =
    let rule_same : r ≡ q = same_number r q (neither_less (rule_number r) (rule_number q) (no_lower s r q at to h k) (no_lower s q r to at k h)) in
    let there : IsBrokenAt s r to = subst (λ x. IsBrokenAt s x to) (sym rule_same) k.1 in
    ap (λ x. answer.No x at) rule_same ∙ ap (λ x. answer.No q x) (broken_once s r at to h.1 there)
