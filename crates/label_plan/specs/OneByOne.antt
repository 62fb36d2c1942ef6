-- Names that are gone through one by one.
use Rattle.std.specs.Prelude.{◌≡◌, ◌<◌, ℕ, List, Some, slice_get, option_map}
use Rattle.relay_conf.specs.declared.output.Output.{Output}
use Rattle.relay_conf.specs.declared.relay.Relay.{Relay}
use Rattle.relay_net.specs.Network.{Network, relay_at}
use Rattle.loss_rules.specs.Breaks.{Subject}
use Rattle.loss_rules.specs.Sites.{rule_at}
use Rattle.plan_lines.specs.Plans.{network}
use Rattle.label_plan.specs.declared.error.DropError.{DropError}
use Rattle.label_plan.specs.declared.error.DropError.TheVariants as error
use Rattle.label_plan.specs.declared.name.DropName.{DropName}
use Rattle.label_plan.specs.declared.place.MatchPlace.{MatchPlace}
use Rattle.label_plan.specs.Changes.{ChangesAt, PutsInNode}
use Rattle.label_plan.specs.Clashes.{IsOwnSink}
use Rattle.label_plan.specs.Drops.{Means, IsThere, AreLetGo, HasNoRelay, HasNoScope, HasNoMatch}

-- The name means the match that stands there, and this is its line.
pub record IsMeant {A : Type 0} (net : Network A) (name : DropName) (at : MatchPlace) : Type 0 where
  pub means : Means net name at.place at.scope at.rule
  pub line_is : option_map (λ found. found.line) (rule_at net at.place at.scope at.rule)
      ≡ Some at.line

-- the name, which has this place among the names, means no match, or memory ran out
abbrev pub IsRefusedAt : {A : Type 0} → Network A → DropName → ℕ → DropError → Type 0
IsRefusedAt net name at (error.NoRelay n) = (n ≡ at) × HasNoRelay net name
IsRefusedAt net name at (error.NoScope n) = (n ≡ at) × HasNoScope net name
IsRefusedAt net name at (error.NoMatch n) = (n ≡ at) × HasNoMatch net name
IsRefusedAt net name at error.Memory = Unit {0}

-- In place of the outputs of the match that the name means a sink of its own was put.
pub record LetsOneGo {A : Type 0} (before : Subject A) (name : DropName)
    (after : Subject A) : Type 0 where
  pub at : MatchPlace
  pub meant : IsMeant before.net name at
  pub relay : Relay A
  pub relay_is : relay_at before.net at.place ≡ Some relay
  pub outputs : List (Output A)
  pub own : IsOwnSink relay at.line outputs
  pub puts : ChangesAt (PutsInNode at.scope at.rule outputs) at.place before.net.relays
      after.net.relays
  pub rest : after ≡ record before { net = network after.net.relays before.net.clients }

-- one of so many first names means this match
abbrev pub IsNamedBefore : {A : Type 0} → Network A → List DropName → ℕ → ℕ → ℕ → ℕ → Type 0
IsNamedBefore net names count place scope rule = (at : ℕ) × (name : DropName) × (at < count)
    × (slice_get names at ≡ Some name) × Means net name place scope rule

-- Each of so many first names means a match of the plan, and these are let go.
pub record LetsSoManyGo {A : Type 0} (before : Subject A) (names : List DropName) (count : ℕ)
    (after : Subject A) : Type 0 where
  pub are_there : (at : ℕ) (name : DropName) → at < count → slice_get names at ≡ Some name
      → IsThere before.net name
  pub are_let_go : AreLetGo before (IsNamedBefore before.net names count) after
