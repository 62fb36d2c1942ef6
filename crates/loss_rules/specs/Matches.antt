-- What the reaches of a scope's matches cover, seen from the list of the matches.
use Rattle.std.specs.Prelude.{◌≡◌, ◌<◌, ℕ, List, Some, slice_get, All, Any}
use Rattle.relay_conf.specs.declared.relay.MatchRule.{MatchRule}
use Rattle.tag_pattern.specs.Items.{Item}
use Rattle.loss_rules.specs.Rules.{FitsMatch, IsCovered}
use Rattle.loss_rules.specs.declared.label.Reach.{Reach}

-- The label's pattern fits none of the matches before this place.
abbrev pub FitsNoneOf : {A : Type 0} → List (MatchRule A) → ℕ → List Item → Type 0
FitsNoneOf {A} matches rule label = (before : ℕ) (found : MatchRule A) → before < rule
    → slice_get matches before ≡ Some found → ¬ FitsMatch label found

-- The reaches of these matches, up to and with the first that the label's pattern fits, cover what
-- the two may have in common. Where it fits none, nothing is asked for.
abbrev pub AreCovered : {A : Type 0} → List (MatchRule A) → List (Reach A) → ℕ → ℕ → List Item
    → Type 0
AreCovered {A} matches reaches place scope label = Any (FitsMatch label) matches
    → (rule : ℕ) (found : MatchRule A) → slice_get matches rule ≡ Some found
    → FitsNoneOf matches rule label
    → All (IsCovered reaches place scope rule label) found.patterns.items
