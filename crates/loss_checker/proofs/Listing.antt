-- How the list of broken rules grows, rule by rule.
use Rattle.std.proofs.Common.{◌≡◌, ◌<◌, ◌+◌, ℕ, List, [], ◌∷◌, ◌++◌, length, Bool, true, false, ◌==◌, ◌∙◌, refl, sym, ap, subst, arith, inl, inr, Contains}
use Rattle.std.specs.Prelude.{◌⊎◌, slice_index_or}
use Rattle.std.specs.List.{remove}
use Rattle.std.proofs.lemmas.List.Elements.{Contains-append_left, Contains-append_right, Contains-push_cases}
use Rattle.loss_rules.specs.Breaks.{Subject, IsKept, IsBrokenAt, IsAnswer, rule_number}
use Rattle.loss_rules.specs.Everywhere.{AreBrokenPlaces}
use Rattle.loss_rules.specs.declared.answer.Rule.{Rule}
use Rattle.loss_rules.specs.declared.answer.Rule.TheVariants as rule
use Rattle.loss_rules.proofs.FirstPlaces.{first_place}
use Rattle.loss_rules.proofs.RuleNumbers.{same_number}
use Rattle.loss_checker.specs.Broken.{answer_of, IsListed, StandInOrder, AreBrokenRules, IsFirstBefore, AreBrokenBefore}
use Rattle.loss_checker.specs.Kept.{AreKeptBefore}
use Rattle.loss_checker.specs.declared.broken.BrokenRule.{BrokenRule}
use Rattle.loss_checker.proofs.RuleNumbers.{none_before, below_or_at, one_more, all_kept}

nothing_in_none : {A : Type 0} (one : BrokenRule A) → ¬ Contains [] one
nothing_in_none one (k, less, is) = omega arith

alone : {A : Type 0} (one : BrokenRule A) → Contains (one ∷ []) one
alone one = (0, omega arith, refl)

-- before the first rule none is broken
pub none_broken : {A : Type 0} (s : Subject A) → AreBrokenBefore s 1 []
none_broken s = record {
  broken = λ one c. absurd (nothing_in_none one c);
  places = λ one c. absurd (nothing_in_none one c);
  below = λ one c. absurd (nothing_in_none one c);
  others = λ r less. inl (none_before s r less);
  ordered = tt;
  first = none_before s;
}

-- one that goes behind those before it
in_order : {A : Type 0} (found : List (BrokenRule A)) (one : BrokenRule A) → StandInOrder found → ((other : BrokenRule A) → Contains found other → rule_number other.rule < rule_number one.rule)
    → StandInOrder (found ++ one ∷ [])
in_order [] one ordered below = ((λ other c. absurd (nothing_in_none other c)), tt)
in_order {A} (head ∷ found) one ordered below = (
  (λ other c. elim (Contains-push_cases found one other c) [
    | inl before ↦ ordered.0 other before
    | inr same ↦ subst (λ (x : BrokenRule A). rule_number head.rule < rule_number x.rule) same (below head (0, omega arith, refl))
  ]),
  in_order found one ordered.1 (λ other c. below other (Contains-append_right (head ∷ []) found other c)),
)

first_kept : {A : Type 0} (s : Subject A) (r : Rule) (found : List (BrokenRule A)) → IsFirstBefore s (rule_number r) found → IsKept s r → IsFirstBefore s (rule_number r + 1) found
first_kept s r [] before kept = one_more s r before kept
first_kept s r (head ∷ found) before kept = before

first_broken : {A : Type 0} (s : Subject A) (one : BrokenRule A) (found : List (BrokenRule A)) → IsFirstBefore s (rule_number one.rule) found → IsBrokenAt s one.rule one.place
    → IsFirstBefore s (rule_number one.rule + 1) (found ++ one ∷ [])
first_broken s one [] before broken = (before, broken)
first_broken s one (head ∷ found) before broken = before

-- a rule that holds goes behind those before it
pub one_kept : {A : Type 0} (s : Subject A) (r : Rule) (found : List (BrokenRule A)) → AreBrokenBefore s (rule_number r) found → IsKept s r → AreBrokenBefore s (rule_number r + 1) found
one_kept s r found before kept = record {
  broken = before.broken;
  places = before.places;
  below = λ one c. (let less = before.below one c in omega arith);
  others = λ other lt. elim (below_or_at (rule_number other) (rule_number r) lt) [
    | inl below ↦ before.others other below
    | inr same ↦ inl (subst (IsKept s) (same_number r other (sym same)) kept)
  ];
  ordered = before.ordered;
  first = first_kept s r found before.first kept;
}

-- and so does one that is broken
pub one_broken : {A : Type 0} (s : Subject A) (one : BrokenRule A) (found : List (BrokenRule A)) → AreBrokenBefore s (rule_number one.rule) found
    → AreBrokenPlaces s one.rule (one.place ∷ one.others.items) → AreBrokenBefore s (rule_number one.rule + 1) (found ++ one ∷ [])
one_broken {A} s one found before listed =
    let broken : IsBrokenAt s one.rule one.place = first_place s one.rule one.place one.others.items listed in
    record {
      broken = λ other c. elim (Contains-push_cases found one other c) [
        | inl is ↦ before.broken other is
        | inr same ↦ subst (λ (x : BrokenRule A). IsBrokenAt s x.rule x.place) same broken
      ];
      places = λ other c. elim (Contains-push_cases found one other c) [
        | inl is ↦ before.places other is
        | inr same ↦ subst (λ (x : BrokenRule A). AreBrokenPlaces s x.rule (x.place ∷ x.others.items)) same listed
      ];
      below = λ other c. elim (Contains-push_cases found one other c) [
        | inl is ↦ (let less = before.below other is in omega arith)
        | inr same ↦ subst (λ (x : BrokenRule A). rule_number x.rule < rule_number one.rule + 1) same (omega arith)
      ];
      others = λ other lt. elim (below_or_at (rule_number other) (rule_number one.rule) lt) [
        | inl below ↦ elim (before.others other below) [
          | inl kept ↦ inl kept
          | inr listed ↦ inr (listed.0, Contains-append_left found (one ∷ []) listed.0 listed.1, listed.2)
        ]
        | inr same ↦ inr (one, Contains-append_right found (one ∷ []) one (alone one), same_number one.rule other (sym same))
      ];
      ordered = in_order found one before.ordered before.below;
      first = first_broken s one found before.first broken;
    }

-- the first of some places and the others, as they are taken apart
pub apart : {X : Type 0} (xs : List X) (x : X) → 0 < length xs → x ≡ slice_index_or xs 0 x → xs ≡ x ∷ remove xs 0
apart [] x some is = absurd (omega arith)
apart (y ∷ ys) x some is = ap (λ z. z ∷ ys) (sym is)

pub some_at_all : {X : Type 0} (xs : List X) (count : ℕ) (b : Bool) → b ≡ (count == 0) → b ≡ false → count ≡ length xs → 0 < length xs
some_at_all [] count b is untrue size = (let clash : true ≡ false = sym (ap (λ n. n == 0) size) ∙ (sym is ∙ untrue) in absurd (cc))
some_at_all (x ∷ xs) count b is untrue size = omega arith

pub none_at_all : {X : Type 0} (xs : List X) → length xs ≡ 0 → xs ≡ []
none_at_all [] none = refl
none_at_all (x ∷ xs) none = absurd (omega (arith, none))

-- each rule has a number below this
below_eleven : (r : Rule) → rule_number r < 11
below_eleven rule.AddressesAreDistinct = omega arith
below_eleven rule.ServersAreSources = omega arith
below_eleven rule.ClientsAreLabelled = omega arith
below_eleven rule.LabelsAreMatched = omega arith
below_eleven rule.ReachesCover = omega arith
below_eleven rule.ReachedMatchesKeep = omega arith
below_eleven rule.RelabelsAreLabelled = omega arith
below_eleven rule.ForwardsAreLabelled = omega arith
below_eleven rule.PathsAreDistinct = omega arith
below_eleven rule.NoRelabelCycle = omega arith

answered : {A : Type 0} (s : Subject A) (found : List (BrokenRule A)) → IsFirstBefore s 11 found → IsAnswer s (answer_of found)
answered s [] before = all_kept s before
answered s (head ∷ found) before = before

-- behind the last rule all are asked
pub all_asked : {A : Type 0} (s : Subject A) (found : List (BrokenRule A)) → AreBrokenBefore s 11 found → AreBrokenRules s found
all_asked s found before = record {
  broken = before.broken;
  places = before.places;
  others = λ r. before.others r (below_eleven r);
  ordered = before.ordered;
  answered = answered s found before.first;
}
