-- All that a network is but for the outputs of its matches.
use Rattle.std.specs.Prelude.{ℕ, List, map, string_bytes}
use Rattle.tag_pattern.specs.Items.{Item}
use Rattle.relay_conf.specs.declared.relay.MatchRule.{MatchRule}
use Rattle.relay_conf.specs.declared.relay.Scope.{Scope}
use Rattle.relay_conf.specs.declared.relay.Source.{Source}
use Rattle.relay_net.specs.declared.node.Node.{Node}

-- a match but for its outputs
pub record MatchOutline : Type 0 where
  pub patterns : List (List Item)
  pub line : ℕ

-- a scope but for the outputs of its matches
pub record ScopeOutline : Type 0 where
  pub name : List ℕ
  pub matches : List MatchOutline

-- a relay but for the outputs of its matches
pub record RelayOutline (A : Type 0) : Type 0 where
  pub number : ℕ
  pub host : List ℕ
  pub sources : List (Source A)
  pub scopes : List ScopeOutline

abbrev pub match_outline : {A : Type 0} → MatchRule A → MatchOutline
match_outline found = record { patterns = found.patterns.items; line = found.line }

abbrev pub scope_outline : {A : Type 0} → Scope A → ScopeOutline
scope_outline scope =
    record { name = string_bytes scope.name; matches = map match_outline scope.matches.items }

abbrev pub relay_outline : {A : Type 0} → Node A → RelayOutline A
relay_outline node = record {
  number = node.number;
  host = string_bytes node.host;
  sources = node.relay.sources.items;
  scopes = map scope_outline node.relay.scopes.items;
}

-- the relays of a network, in their order, but for the outputs of their matches
abbrev pub outline : {A : Type 0} → List (Node A) → List (RelayOutline A)
outline relays = map relay_outline relays
