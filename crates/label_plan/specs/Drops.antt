-- What becomes of a plan at whose named matches events may be let go: in place of the outputs of
-- such a match stands one sink of its own, which keeps.
use Rattle.std.specs.Prelude.{◌≡◌, ℕ, List, Some, None, IsSome, slice_get}
use Rattle.relay_net.specs.Network.{Network, place_among}
use Rattle.loss_rules.specs.Breaks.{Subject}
use Rattle.loss_rules.specs.Sites.{rule_at}
use Rattle.plan_lines.specs.Plans.{scope_at}
use Rattle.label_plan.specs.declared.error.DropError.{DropError}
use Rattle.label_plan.specs.declared.error.DropError.TheVariants as error
use Rattle.label_plan.specs.declared.name.DropName.{DropName}
use Rattle.label_plan.specs.Outlines.{outline}
use Rattle.label_plan.specs.Sinks.{EndsInSink}

-- Which match is named.

-- The name means this match: the relay has its number, the scope its word, and the match its index.
pub record Means {A : Type 0} (net : Network A) (name : DropName)
    (place scope rule : ℕ) : Type 0 where
  pub relay_is : place_among net.relays name.relay ≡ Some place
  pub scope_is : scope_at net.relays place name.scope.now ≡ Some scope
  pub rule_is : name.index ≡ rule
  pub there : IsSome (rule_at net place scope rule)

-- The name means a match.
abbrev pub IsThere : {A : Type 0} → Network A → DropName → Type 0
IsThere net name = (place scope rule : ℕ) × Means net name place scope rule

-- One of the names means this match.
abbrev pub IsNamed : {A : Type 0} → Network A → List DropName → ℕ → ℕ → ℕ → Type 0
IsNamed net names place scope rule = (at : ℕ) × (name : DropName) × (slice_get names at ≡ Some name)
    × Means net name place scope rule

-- Of these matches each ends in such a sink; the others, and all else of the plan, are as they
-- were.
pub record AreLetGo {A : Type 0} (before : Subject A) (IsOne : ℕ → ℕ → ℕ → Type 0)
    (after : Subject A) : Type 0 where
  pub outline_stays : outline after.net.relays ≡ outline before.net.relays
  pub clients_stay : after.net.clients ≡ before.net.clients
  pub rest_stays : after ≡ record before { net = after.net }
  pub others_stay : (place scope rule : ℕ) → ¬ IsOne place scope rule
      → rule_at after.net place scope rule ≡ rule_at before.net place scope rule
  pub end_in_sinks : (place scope rule : ℕ) → IsOne place scope rule
      → EndsInSink after.net place scope rule

-- Each name means a match of the plan, and these are let go.
pub record LetsGo {A : Type 0} (before : Subject A) (names : List DropName)
    (after : Subject A) : Type 0 where
  pub are_there : (at : ℕ) (name : DropName) → slice_get names at ≡ Some name
      → IsThere before.net name
  pub are_let_go : AreLetGo before (IsNamed before.net names) after

-- Why nothing is let go.

-- no relay has the number of the name
abbrev pub HasNoRelay : {A : Type 0} → Network A → DropName → Type 0
HasNoRelay net name = place_among net.relays name.relay ≡ None

-- the relay has no scope of its word
abbrev pub HasNoScope : {A : Type 0} → Network A → DropName → Type 0
HasNoScope net name = (place : ℕ) × (place_among net.relays name.relay ≡ Some place)
    × (scope_at net.relays place name.scope.now ≡ None)

-- the scope has no match with its index
abbrev pub HasNoMatch : {A : Type 0} → Network A → DropName → Type 0
HasNoMatch net name = (place scope : ℕ) × (place_among net.relays name.relay ≡ Some place)
    × (scope_at net.relays place name.scope.now ≡ Some scope)
    × (rule_at net place scope name.index ≡ None)

-- This is so of the name with this place among the names.
abbrev pub OfName : List DropName → ℕ → (DropName → Type 0) → Type 0
OfName names at P = (name : DropName) × (slice_get names at ≡ Some name) × P name

-- the name with this place means no match, or memory ran out
abbrev pub IsRefused : {A : Type 0} → Network A → List DropName → DropError → Type 0
IsRefused net names (error.NoRelay at) = OfName names at (HasNoRelay net)
IsRefused net names (error.NoScope at) = OfName names at (HasNoScope net)
IsRefused net names (error.NoMatch at) = OfName names at (HasNoMatch net)
IsRefused net names error.Memory = Unit {0}
