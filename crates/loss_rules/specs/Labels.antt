-- What a plan says of tags: which may reach a scope, and which of them a match.
use Rattle.std.specs.Prelude.{◌≡◌, ℕ, List, Option, Any, All}
use Rattle.tag_pattern.specs.Items.{Item}
use Rattle.tag_pattern.specs.Patterns.{Fits}
use Rattle.tag_pattern.specs.Prefixes.{entered_items}
use Rattle.route_graph.specs.Ways.{HaveTag}
use Rattle.loss_rules.specs.declared.label.Label.{Label}
use Rattle.loss_rules.specs.declared.label.Reach.{Reach}

-- The label is of this scope of the relay at this place.
abbrev pub IsLabelOf : {A : Type 0} → ℕ → ℕ → Label A → Type 0
IsLabelOf place scope label = (label.place ≡ place) × (label.scope ≡ scope)

-- The reach is of this match of that scope.
abbrev pub IsReachOf : {A : Type 0} → ℕ → ℕ → ℕ → Reach A → Type 0
IsReachOf place scope rule reach = (reach.place ≡ place) × (reach.scope ≡ scope)
    × (reach.rule ≡ rule)

-- The pattern fits a pattern of a label of this scope.
abbrev pub FitsLabel : {A : Type 0} → List (Label A) → ℕ → ℕ → List Item → Type 0
FitsLabel labels place scope pattern =
    Any (λ label. IsLabelOf place scope label × Any (Fits pattern) label.patterns.items) labels

-- The same of the pattern with this prefix in front, if there is one.
abbrev pub FitsLabelWith : {A : Type 0} → List (Label A) → ℕ → ℕ → Option (List ℕ) → List Item
    → Type 0
FitsLabelWith labels place scope prefix pattern =
    FitsLabel labels place scope (entered_items prefix pattern)

-- The pattern fits a pattern of a reach of this match.
abbrev pub FitsReach : {A : Type 0} → List (Reach A) → ℕ → ℕ → ℕ → List Item → Type 0
FitsReach reaches place scope rule pattern =
    Any (λ reach. IsReachOf place scope rule reach
    × Any (Fits pattern) reach.patterns.items) reaches

-- The match is reached: it has a reach.
abbrev pub IsReached : {A : Type 0} → List (Reach A) → ℕ → ℕ → ℕ → Type 0
IsReached reaches place scope rule = Any (IsReachOf place scope rule) reaches

-- This holds of each pattern of the match's reaches.
abbrev pub EachReach : {A : Type 0} → List (Reach A) → ℕ → ℕ → ℕ → (List Item → Type 0) → Type 0
EachReach reaches place scope rule P =
    All (λ reach. IsReachOf place scope rule reach → All P reach.patterns.items) reaches

-- The tag is one of a label of this scope.
abbrev pub IsLabelledTag : {A : Type 0} → List (Label A) → ℕ → ℕ → List ℕ → Type 0
IsLabelledTag labels place scope tag =
    Any (λ label. IsLabelOf place scope label × HaveTag label.patterns.items tag) labels

-- The tag is one of a reach of this match.
abbrev pub IsReachedTag : {A : Type 0} → List (Reach A) → ℕ → ℕ → ℕ → List ℕ → Type 0
IsReachedTag reaches place scope rule tag =
    Any (λ reach. IsReachOf place scope rule reach × HaveTag reach.patterns.items tag) reaches
