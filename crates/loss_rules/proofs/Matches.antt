-- The matches of a scope, by their places in the network and as a list.
use Rattle.std.proofs.Common.{◌≡◌, ℕ, ◌+◌, ◌<◌, ◌≤◌, List, [], Option, Some, None, slice_get, length, refl, sym, ap, subst, ◌∙◌, arith, ◌↔◌, ◌⊎◌, inl, inr, Any, All, Bool, true, false, ◌&&◌, IsTrue}
use Rattle.std.specs.Option.{option_and_then, option_map_or}
use Rattle.std.proofs.lemmas.Bool.{cases_lt}
use Rattle.std.proofs.lemmas.Option.{same_Some, slice_get_within, slice_get_read, get_or_from_slice_get}
use Rattle.relay_conf.specs.declared.relay.MatchRule.{MatchRule}
use Rattle.relay_conf.specs.declared.relay.Scope.{Scope}
use Rattle.relay_net.specs.Network.{Network, relay_at}
use Rattle.tag_pattern.specs.Items.{Item}
use Rattle.loss_rules.specs.Matches.{FitsNoneOf, AreCovered}
use Rattle.loss_rules.specs.Rules.{FitsMatch, IsMatched, IsCovered, ReachesCoverLabel}
use Rattle.loss_rules.specs.Sites.{rule_at, matches_at}
use Rattle.loss_rules.specs.declared.label.Reach.{Reach}
use Rattle.loss_rules.proofs.Seeks.{not_true}

module _ {A : Type 0} where
  by_scope : (o : Option (Scope A)) (rule : ℕ) → option_and_then (λ found. slice_get found.matches.items rule) o ≡ slice_get (option_map_or (λ found. found.matches.items) o []) rule
  by_scope None rule = refl
  by_scope (Some found) rule = refl

  pub rule_listed : (net : Network A) (place scope rule : ℕ) → rule_at net place scope rule ≡ slice_get (matches_at net place scope) rule
  rule_listed net place scope rule = by_scope (option_and_then (λ relay. slice_get relay.scopes.items scope) (relay_at net place)) rule

  pub any_matched : (net : Network A) (place scope : ℕ) (pattern : List Item) → Any (FitsMatch pattern) (matches_at net place scope) → IsMatched net place scope pattern
  any_matched net place scope pattern (rule, found, less, is, fits) =
      (rule, found, rule_listed net place scope rule ∙ slice_get_read (matches_at net place scope) _ rule found refl less (sym is), fits)

  pub matched_any : (net : Network A) (place scope : ℕ) (pattern : List Item) → IsMatched net place scope pattern → Any (FitsMatch pattern) (matches_at net place scope)
  matched_any net place scope pattern (rule, found, is, fits) =
      let there : slice_get (matches_at net place scope) rule ≡ Some found = sym (rule_listed net place scope rule) ∙ is in
      (rule, found, slice_get_within (matches_at net place scope) rule found there, get_or_from_slice_get (matches_at net place scope) rule found found there, fits)

  pub covered_label : (net : Network A) (reaches : List (Reach A)) (place scope : ℕ) (label : List Item) → AreCovered (matches_at net place scope) reaches place scope label → ReachesCoverLabel net reaches place scope label
  covered_label net reaches place scope label h matched rule found is none =
      h (matched_any net place scope label matched) rule found (sym (rule_listed net place scope rule) ∙ is)
      (λ before other less there. none before other less (rule_listed net place scope before ∙ there))

  pub label_covered : (net : Network A) (reaches : List (Reach A)) (place scope : ℕ) (label : List Item) → ReachesCoverLabel net reaches place scope label → AreCovered (matches_at net place scope) reaches place scope label
  label_covered net reaches place scope label h any rule found is none =
      h (any_matched net place scope label any) rule found (rule_listed net place scope rule ∙ is)
      (λ before other less there. none before other less (sym (rule_listed net place scope before) ∙ there))

  -- What the search through a scope's matches knows before the match at this place: the label's
  -- pattern fits none so far, and whether all so far are covered.
  pub record Passed (matches : List (MatchRule A)) (reaches : List (Reach A)) (place scope : ℕ) (label : List Item) (rule : ℕ) (covered : Bool) : Type 0 where
    pub fits_none : FitsNoneOf matches rule label
    pub covered_is : IsTrue covered ↔ ((before : ℕ) (found : MatchRule A) → before < rule → slice_get matches before ≡ Some found → All (IsCovered reaches place scope before label) found.patterns.items)

  module _ (matches : List (MatchRule A)) (reaches : List (Reach A)) (place scope : ℕ) (label : List Item) where
    abbrev Covers : ℕ → MatchRule A → Type 0
    Covers rule found = All (IsCovered reaches place scope rule label) found.patterns.items

    both : (a b : Bool) → IsTrue (a && b) → IsTrue a × IsTrue b
    both true true h = (refl, refl)
    both true false h = absurd (cc)
    both false b h = absurd (cc)

    both_back : (a b : Bool) → IsTrue a → IsTrue b → IsTrue (a && b)
    both_back true true h k = refl
    both_back true false h k = k
    both_back false b h k = h

    -- one more match, which is covered or not
    pub covered_more : (rule : ℕ) (found : MatchRule A) (covered here : Bool) → slice_get matches rule ≡ Some found → Passed matches reaches place scope label rule covered → IsTrue here ↔ Covers rule found
        → IsTrue (covered && here) ↔ ((before : ℕ) (other : MatchRule A) → before < rule + 1 → slice_get matches before ≡ Some other → Covers before other)
    covered_more rule found covered here is passed h = (there, back)
      where
        at : IsTrue covered → IsTrue here → (before : ℕ) (other : MatchRule A) → before < rule + 1 → slice_get matches before ≡ Some other → (before < rule) ⊎ (rule ≤ before) → Covers before other
        at c k before other less other_is (inl below) = passed.covered_is.0 c before other below other_is
        at c k before other less other_is (inr past) =
            let same : rule ≡ before = omega arith in
            let P : ℕ → Type 0 = λ p. Covers p other in
            let Q : MatchRule A → Type 0 = λ m. Covers rule m in
            subst P same (subst Q (same_Some found other (sym is ∙ (ap (slice_get matches) same ∙ other_is))) (h.0 k))

        there : IsTrue (covered && here) → (before : ℕ) (other : MatchRule A) → before < rule + 1 → slice_get matches before ≡ Some other → Covers before other
        there t before other less other_is = let p : IsTrue covered × IsTrue here = both covered here t in at p.0 p.1 before other less other_is (cases_lt before rule)

        back : ((before : ℕ) (other : MatchRule A) → before < rule + 1 → slice_get matches before ≡ Some other → Covers before other) → IsTrue (covered && here)
        back all = both_back covered here (passed.covered_is.1 (λ before other less other_is. all before other (omega arith) other_is)) (h.1 (all rule found (omega arith) is))

    -- the label's pattern fits this match, and none before it
    pub fits_here : (rule : ℕ) (found : MatchRule A) (covered : Bool) → slice_get matches rule ≡ Some found → FitsNoneOf matches rule label → FitsMatch label found
        → IsTrue covered ↔ ((before : ℕ) (other : MatchRule A) → before < rule + 1 → slice_get matches before ≡ Some other → Covers before other)
        → IsTrue covered ↔ AreCovered matches reaches place scope label
    fits_here rule found covered is none fits h = (
      λ t any r other other_is passed. by r other other_is passed (h.0 t) (cases_lt r (rule + 1)),
      λ all. h.1 (λ before other less other_is. all (rule, found, slice_get_within matches rule found is, get_or_from_slice_get matches rule found found is, fits) before other other_is (λ b o l e. none b o (omega arith) e)),
    )
      where
        by : (r : ℕ) (other : MatchRule A) → slice_get matches r ≡ Some other → FitsNoneOf matches r label
            → ((before : ℕ) (o : MatchRule A) → before < rule + 1 → slice_get matches before ≡ Some o → Covers before o) → (r < rule + 1) ⊎ (rule + 1 ≤ r) → Covers r other
        by r other other_is passed all (inl less) = all r other less other_is
        by r other other_is passed all (inr past) = absurd (passed rule found (omega arith) is fits)

    -- the label's pattern fits none of the matches
    pub fits_nowhere : (n : ℕ) → length matches ≤ n → FitsNoneOf matches n label → AreCovered matches reaches place scope label
    fits_nowhere n end none any = absurd (none any.0 any.1 (omega (arith, any.2)) (slice_get_read matches _ any.0 any.1 refl any.2 (sym any.3)) any.4)

    -- one more match that the label's pattern doesn't fit
    pub passed_more : (rule : ℕ) (found : MatchRule A) (covered : Bool) → slice_get matches rule ≡ Some found → FitsNoneOf matches rule label → ¬ FitsMatch label found
        → IsTrue covered ↔ ((before : ℕ) (other : MatchRule A) → before < rule + 1 → slice_get matches before ≡ Some other → Covers before other)
        → Passed matches reaches place scope label (rule + 1) covered
    passed_more rule found covered is none unfit h = record { fits_none = λ before other less other_is fits. by before other other_is fits (cases_lt before rule) less; covered_is = h }
      where
        by : (before : ℕ) (other : MatchRule A) → slice_get matches before ≡ Some other → FitsMatch label other → (before < rule) ⊎ (rule ≤ before) → before < rule + 1 → ⊥
        by before other other_is fits (inl less) below = none before other less other_is fits
        by before other other_is fits (inr past) below =
            let same : before ≡ rule = omega arith in
            let P : MatchRule A → Type 0 = λ m. FitsMatch label m in
            unfit (subst P (same_Some other found (sym other_is ∙ (ap (slice_get matches) same ∙ is))) fits)

    -- one more match after some that are covered, or aren't
    pub more_covered : (rule : ℕ) (found : MatchRule A) (covered now : Bool) → slice_get matches rule ≡ Some found → Passed matches reaches place scope label rule covered → covered ≡ true → IsTrue now ↔ Covers rule found
        → IsTrue now ↔ ((before : ℕ) (other : MatchRule A) → before < rule + 1 → slice_get matches before ≡ Some other → Covers before other)
    more_covered rule found covered now is passed e h = covered_more rule found true now is (subst (Passed matches reaches place scope label rule) e passed) h

    pub more_uncovered : (rule : ℕ) (covered now : Bool) → Passed matches reaches place scope label rule covered → covered ≡ false → now ≡ false
        → IsTrue now ↔ ((before : ℕ) (other : MatchRule A) → before < rule + 1 → slice_get matches before ≡ Some other → Covers before other)
    more_uncovered rule covered now passed e n =
        (λ t. absurd (not_true (sym n ∙ t)), λ all. absurd (not_true (sym e ∙ passed.covered_is.1 (λ before other less other_is. all before other (omega arith) other_is))))
