-- Other outputs stand in one match of a plan, and nothing else is changed.
use Rattle.std.specs.Prelude.{◌≡◌, ◌<◌, ℕ, List, Option, Some, IfSome, option_map, vec_len, slice_get, slice_set}
use Rattle.std.specs.Option.{option_and_then}
use Rattle.relay_conf.specs.declared.output.Output.{Output}
use Rattle.relay_conf.specs.declared.relay.MatchRule.{MatchRule}
use Rattle.relay_conf.specs.declared.relay.Scope.{Scope}
use Rattle.relay_conf.specs.declared.relay.Relay.{Relay}
use Rattle.relay_net.specs.declared.node.Node.{Node}

-- The element with this place is changed like this, and no other.
pub record ChangesAt {X : Type 0} (Changes : X → X → Type 0) (place : ℕ)
    (before after : List X) : Type 0 where
  pub was : X
  pub is : X
  pub was_there : slice_get before place ≡ Some was
  pub changes : Changes was is
  pub after_is : after ≡ slice_set before place is

-- These outputs stand in a match in place of those that it had.
pub record PutsOutputs {A : Type 0} (outputs : List (Output A))
    (before after : MatchRule A) : Type 0 where
  pub patterns_are : after.patterns ≡ before.patterns
  pub line_is : after.line ≡ before.line
  pub outputs_are : after.outputs.items ≡ outputs

-- So it is in the match with this place of a scope.
pub record PutsInScope {A : Type 0} (rule : ℕ) (outputs : List (Output A))
    (before after : Scope A) : Type 0 where
  pub name_is : after.name ≡ before.name
  pub matches : ChangesAt (PutsOutputs outputs) rule before.matches.items after.matches.items

-- So it is in the scope with this place of a relay.
pub record PutsInRelay {A : Type 0} (scope rule : ℕ) (outputs : List (Output A))
    (before after : Relay A) : Type 0 where
  pub sources_are : after.sources ≡ before.sources
  pub scopes : ChangesAt (PutsInScope rule outputs) scope before.scopes.items after.scopes.items

-- So it is in a relay of a network.
pub record PutsInNode {A : Type 0} (scope rule : ℕ) (outputs : List (Output A))
    (before after : Node A) : Type 0 where
  pub number_is : after.number ≡ before.number
  pub host_is : after.host ≡ before.host
  pub relay : PutsInRelay scope rule outputs before.relay after.relay

-- The scope has a match with this place, if it is there.
abbrev pub HasMatch : {A : Type 0} → ℕ → Option (Scope A) → Type 0
HasMatch rule scope = IfSome scope (λ found. rule < vec_len found.matches)

-- The relay has a scope with this place, if it is there.
abbrev pub HasScope : {A : Type 0} → ℕ → Option (Node A) → Type 0
HasScope scope node = IfSome node (λ found. scope < vec_len found.relay.scopes)

-- That scope has a match with this place.
abbrev pub HasMatchIn : {A : Type 0} → ℕ → ℕ → Option (Node A) → Type 0
HasMatchIn scope rule node =
    IfSome node (λ found. HasMatch rule (slice_get found.relay.scopes.items scope))

-- the match with this place in this scope of the relay at this place
abbrev pub match_in : {A : Type 0} → List (Node A) → ℕ → ℕ → ℕ → Option (MatchRule A)
match_in relays place scope rule = option_and_then (λ found. slice_get found.matches.items rule)
    (option_and_then (λ relay. slice_get relay.scopes.items scope)
    (option_map (λ node. node.relay) (slice_get relays place)))
