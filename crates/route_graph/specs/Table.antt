-- What of a relay an event's way depends on: plain values, without allocators.
use Rattle.std.specs.Prelude.{List, Option, Some, None, map}
use Rattle.std.specs.List.{filter_map}
use Rattle.tag_pattern.specs.Items.{Item}
use Rattle.relay_conf.specs.declared.relay.Relay.{Relay}
use Rattle.relay_conf.specs.declared.relay.Scope.{Scope as RelayScope}
use Rattle.relay_conf.specs.declared.relay.MatchRule.{MatchRule}
use Rattle.relay_conf.specs.declared.output.Output.{Output}
use Rattle.relay_conf.specs.declared.output.Output.TheVariants as output
use Rattle.route_graph.specs.declared.hop.Hop.{Hop}
use Rattle.route_graph.specs.declared.hop.Hop.TheVariants.{Buffer, Scope}

-- a match: its patterns, and where its outputs take an event, each in the order of the text
pub record Rule : Type 0 where
  pub patterns : List (List Item)
  pub hops : List Hop

-- for each scope its matches, in the order of the text; the main scope is the first
abbrev pub Table : Type 0
Table = List (List Rule)

-- where an output takes an event: to its buffer, to another scope, or nowhere
abbrev pub hop_of : {A : Type 0} → Output A → Option Hop
hop_of (output.Null line) = None
hop_of (output.Relabel target line) = Some (Scope target)
hop_of (output.Forward settings line) = Some (Buffer settings.number)
hop_of (output.File settings line) = Some (Buffer settings.number)

-- a match as one of the table
abbrev pub rule_of : {A : Type 0} → MatchRule A → Rule
rule_of rule = record {
  patterns = rule.patterns.items;
  hops = filter_map hop_of rule.outputs.items;
}

-- the matches of a scope
abbrev pub rules_of : {A : Type 0} → RelayScope A → List Rule
rules_of scope = map rule_of scope.matches.items

-- the table of a relay
abbrev pub table_of : {A : Type 0} → Relay A → Table
table_of relay = map rules_of relay.scopes.items
