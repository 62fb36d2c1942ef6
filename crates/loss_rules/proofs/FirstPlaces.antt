-- The first of all places where a rule is broken.
use Rattle.std.proofs.Common.{◌≡◌, ℕ, zero, suc, ◌+◌, ◌<◌, List, [], ◌∷◌, ◌++◌, Some, slice_get, get_or, refl, sym, ap, subst, ◌∙◌, arith, inl, inr, Contains}
use Rattle.std.proofs.lemmas.Bool.{cases_eq}
use Rattle.std.proofs.lemmas.List.Kept.{AllPairs-from_increasing}
use Rattle.relay_net.specs.Network.{Network}
use Rattle.relay_net.specs.declared.node.Node.{Node}
use Rattle.loss_rules.specs.Breaks.{Subject, IsFirstLine, AreNewBefore, BreaksAtSource, IsFirstTwice, IsBrokenAt}
use Rattle.loss_rules.specs.Everywhere.{AreLines, plan_places, conf_places, AreInPlan, AreByRelays, AreInRelay, AreInConf, AreTwiceInRelay, AreTwice, AreBrokenPlaces}
use Rattle.loss_rules.specs.declared.answer.Place.{Place}
use Rattle.loss_rules.specs.declared.answer.Place.TheVariants as place
use Rattle.loss_rules.specs.declared.answer.Rule.{Rule}
use Rattle.loss_rules.specs.declared.answer.Rule.TheVariants as rule
use Rattle.loss_rules.specs.declared.label.RelayLine.{RelayLine}
use Rattle.loss_rules.proofs.Lines.{none_broken}
use Rattle.loss_rules.proofs.News.{new_more, sources_new}

-- The place is a line of the plan, and this is broken there and in no line before it.
abbrev pub IsInPlan : (ℕ → Type 0) → Place → Type 0
IsInPlan B (place.Plan line) = B line × ((l : ℕ) → l < line → ¬ B l)
IsInPlan B (place.Conf relay line) = ⊥

-- The place is a line of a relay's configuration, and there this is broken first.
abbrev pub IsInConf : {A : Type 0} → Network A → (ℕ → ℕ → Type 0) → Place → Type 0
IsInConf net B (place.Plan line) = ⊥
IsInConf {A} net B (place.Conf relay line) = (p : ℕ) × (node : Node A) × (slice_get net.relays p ≡ Some node) × (node.number ≡ relay) × IsFirstLine B p line

-- what is said of such a place by its kind
by_plan : (B : ℕ → Type 0) (Is : Place → Type 0) → ((line : ℕ) → IsInPlan B (place.Plan line) → Is (place.Plan line)) → (at : Place) → IsInPlan B at → Is at
by_plan B Is says (place.Plan line) h = says line h
by_plan B Is says (place.Conf relay line) h = absurd h

by_conf : {A : Type 0} (net : Network A) (B : ℕ → ℕ → Type 0) (Is : Place → Type 0) → ((relay line : ℕ) → IsInConf net B (place.Conf relay line) → Is (place.Conf relay line)) → (at : Place) → IsInConf net B at → Is at
by_conf net B Is says (place.Plan line) h = absurd h
by_conf net B Is says (place.Conf relay line) h = says relay line h

-- the first of rising lines is the least
first_is_least : (B : ℕ → Type 0) (line : ℕ) (lines : List ℕ) → AreLines B (line ∷ lines) → B line × ((l : ℕ) → l < line → ¬ B l)
first_is_least B line lines are = ((are.exact line).0 (0, omega arith, refl), λ l less b. before l less ((are.exact l).1 b))
  where
    before : (l : ℕ) → l < line → ¬ Contains (line ∷ lines) l
    before l less (zero, within, is) = let same : line ≡ l = is in absurd (omega arith)
    before l less (suc k, within, is) = let above : line < get_or (line ∷ lines) (suc k) l = AllPairs-from_increasing (line ∷ lines) are.rise 0 (suc k) l (omega arith) within in absurd (omega (arith, is))

head_is : (one two : Place) (ones twos : List Place) → one ∷ ones ≡ two ∷ twos → two ≡ one
head_is one two ones twos same = cc

-- the first place in the plan
first_in_plan : (B : ℕ → Type 0) (first : Place) (places : List Place) → AreInPlan B (first ∷ places) → IsInPlan B first
first_in_plan B first places ([], are, is) = absurd (cc)
first_in_plan B first places (line ∷ lines, are, is) = subst (λ (x : Place). IsInPlan B x) (head_is first (place.Plan line) places (plan_places lines) is) (first_is_least B line lines are)

-- Nothing is broken in the relays before this place.
abbrev KeptBefore : (ℕ → ℕ → Type 0) → ℕ → Type 0
KeptBefore B at = (p l : ℕ) → p < at → ¬ B p l

kept_later : (B : ℕ → ℕ → Type 0) (at : ℕ) → KeptBefore B at → AreLines (B at) [] → KeptBefore B (at + 1)
kept_later B at before are p l less b = elim (cases_eq p at) [
  | inl same ↦ none_broken (B at) are l (subst (λ (n : ℕ). B n l) same b)
  | inr apart ↦ before p l (omega arith) b
]

module _ {A : Type 0} where
  -- The relays are those of the network from this place on.
  abbrev StandFrom : Network A → ℕ → List (Node A) → Type 0
  StandFrom net at nodes = (k : ℕ) (node : Node A) → slice_get nodes k ≡ Some node → slice_get net.relays (at + k) ≡ Some node

  stands_here : (net : Network A) (at : ℕ) (node : Node A) (nodes : List (Node A)) → StandFrom net at (node ∷ nodes) → slice_get net.relays at ≡ Some node
  stands_here net at node nodes from = let same : at + 0 ≡ at = omega arith in subst (λ (n : ℕ). slice_get net.relays n ≡ Some node) same (from 0 node refl)

  stand_later : (net : Network A) (at : ℕ) (node : Node A) (nodes : List (Node A)) → StandFrom net at (node ∷ nodes) → StandFrom net (at + 1) nodes
  stand_later net at node nodes from k other is = let same : at + suc k ≡ at + 1 + k = omega arith in subst (λ (n : ℕ). slice_get net.relays n ≡ Some other) same (from (suc k) other is)

  -- the first place in the configurations
  first_in_relays : (net : Network A) (B : ℕ → ℕ → Type 0) (at : ℕ) (nodes : List (Node A)) (first : Place) (places : List Place) → StandFrom net at nodes → KeptBefore B at
      → AreByRelays (AreInRelay B) at nodes (first ∷ places) → IsInConf net B first
  first_in_relays net B at [] first places from before none = absurd (cc)
  first_in_relays net B at (node ∷ nodes) first places from before (here, later, ([], are, here_is), rest, is) =
      let all : first ∷ places ≡ later = is ∙ ap (λ (x : List Place). x ++ later) here_is in
      first_in_relays net B (at + 1) nodes first places (stand_later net at node nodes from) (kept_later B at before are) (subst (λ (x : List Place). AreByRelays (AreInRelay B) (at + 1) nodes x) (sym all) rest)
  first_in_relays net B at (node ∷ nodes) first places from before (here, later, (line ∷ more, are, here_is), rest, is) =
      let all : first ∷ places ≡ place.Conf node.number line ∷ (conf_places node.number more ++ later) = is ∙ ap (λ (x : List Place). x ++ later) here_is in
      let least = first_is_least (B at) line more are in
      subst (λ (x : Place). IsInConf net B x) (head_is first (place.Conf node.number line) places (conf_places node.number more ++ later) all)
      (at, node, stands_here net at node nodes from, refl, record { breaks = least.0; relays_before = before; lines_before = least.1 })

  all_stand : (net : Network A) → StandFrom net 0 net.relays
  all_stand net k node is = let same : k ≡ 0 + k = omega arith in subst (λ (n : ℕ). slice_get net.relays n ≡ Some node) same is

  first_in_conf : (net : Network A) (B : ℕ → ℕ → Type 0) (first : Place) (places : List Place) → AreInConf net B (first ∷ places) → IsInConf net B first
  first_in_conf net B first places = first_in_relays net B 0 net.relays first places (all_stand net) (λ p l less. absurd (omega arith))

  -- the first place of a relay that isn't new, or of a source
  first_twice_in : (net : Network A) (lines : List (RelayLine A)) (at : ℕ) (nodes : List (Node A)) (first : Place) (places : List Place) → StandFrom net at nodes → AreNewBefore net lines at
      → AreByRelays (AreTwiceInRelay net lines) at nodes (first ∷ places) → IsFirstTwice net lines first
  first_twice_in net lines at [] first places from before none = absurd (cc)
  first_twice_in net lines at (node ∷ nodes) first places from before (here, later, (own, sources, inl (new, none), ([], are, sources_are), here_is), rest, is) =
      let all : first ∷ places ≡ later = is ∙ ap (λ (x : List Place). x ++ later) (here_is ∙ (ap (λ (x : List Place). x ++ sources) none ∙ sources_are)) in
      first_twice_in net lines (at + 1) nodes first places (stand_later net at node nodes from) (new_more net lines at before new (sources_new net at are))
      (subst (λ (x : List Place). AreByRelays (AreTwiceInRelay net lines) (at + 1) nodes x) (sym all) rest)
  first_twice_in net lines at (node ∷ nodes) first places from before (here, later, (own, sources, inl (new, none), (line ∷ more, are, sources_are), here_is), rest, is) =
      let all : first ∷ places ≡ place.Conf node.number line ∷ (conf_places node.number more ++ later) = is ∙ ap (λ (x : List Place). x ++ later) (here_is ∙ (ap (λ (x : List Place). x ++ sources) none ∙ sources_are)) in
      let least = first_is_least (BreaksAtSource net at) line more are in
      subst (λ (x : Place). IsFirstTwice net lines x) (head_is first (place.Conf node.number line) places (conf_places node.number more ++ later) all) (
        at,
        node,
        stands_here net at node nodes from,
        refl,
        before,
        new,
        record {
          breaks = (refl, least.0);
          relays_before = λ q l less b. absurd (omega (arith, b.0));
          lines_before = λ l less b. least.1 l less b.1;
        },
      )
  first_twice_in net lines at (node ∷ nodes) first places from before (here, later, (own, sources, inr (found, found_is, not_new, own_is), mine, here_is), rest, is) =
      let all : first ∷ places ≡ place.Plan found.line ∷ (sources ++ later) = is ∙ ap (λ (x : List Place). x ++ later) (here_is ∙ ap (λ (x : List Place). x ++ sources) own_is) in
      subst (λ (x : Place). IsFirstTwice net lines x) (head_is first (place.Plan found.line) places (sources ++ later) all)
      (at, found, found_is, refl, before, not_new)

  first_twice : (net : Network A) (lines : List (RelayLine A)) (first : Place) (places : List Place) → AreTwice net lines (first ∷ places) → IsFirstTwice net lines first
  first_twice net lines first places = first_twice_in net lines 0 net.relays first places (all_stand net) (record { relays = λ b less. absurd (omega arith); sources = λ b s less. absurd (omega arith) })

  -- the first place where a rule is broken
  pub first_place : (s : Subject A) (r : Rule) (first : Place) (places : List Place) → AreBrokenPlaces s r (first ∷ places) → IsBrokenAt s r first
  first_place s rule.AddressesAreDistinct first places are = first_twice s.net s.relay_lines first places are
  first_place s rule.ServersAreSources first places are = by_conf s.net _ (IsBrokenAt s rule.ServersAreSources) (λ relay line h. h) first (first_in_conf s.net _ first places are)
  first_place s rule.ClientsAreLabelled first places are = by_plan _ (IsBrokenAt s rule.ClientsAreLabelled) (λ line h. h) first (first_in_plan _ first places are)
  first_place s rule.LabelsAreMatched first places are = by_plan _ (IsBrokenAt s rule.LabelsAreMatched) (λ line h. h) first (first_in_plan _ first places are)
  first_place s rule.ReachesCover first places are = by_plan _ (IsBrokenAt s rule.ReachesCover) (λ line h. h) first (first_in_plan _ first places are)
  first_place s rule.ReachedMatchesKeep first places are = by_conf s.net _ (IsBrokenAt s rule.ReachedMatchesKeep) (λ relay line h. h) first (first_in_conf s.net _ first places are)
  first_place s rule.RelabelsAreLabelled first places are = by_conf s.net _ (IsBrokenAt s rule.RelabelsAreLabelled) (λ relay line h. h) first (first_in_conf s.net _ first places are)
  first_place s rule.ForwardsAreLabelled first places are = by_conf s.net _ (IsBrokenAt s rule.ForwardsAreLabelled) (λ relay line h. h) first (first_in_conf s.net _ first places are)
  first_place s rule.PathsAreDistinct first places are = by_conf s.net _ (IsBrokenAt s rule.PathsAreDistinct) (λ relay line h. h) first (first_in_conf s.net _ first places are)
  first_place s rule.NoRelabelCycle first places are = by_conf s.net _ (IsBrokenAt s rule.NoRelabelCycle) (λ relay line h. h) first (first_in_conf s.net _ first places are)
