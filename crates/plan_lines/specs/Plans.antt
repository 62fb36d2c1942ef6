-- What a plan's text says.
use Rattle.std.specs.Prelude.{◌≡◌, ℕ, ◌+◌, true, List, [], ◌∷◌, ◌++◌, length, map, position, slice_get, string_bytes, Option, Some, IsSome, if◌then◌else◌}
use Rattle.std.specs.Option.{option_and_then}
use Rattle.std.specs.Str.{bytes_eq}
use Rattle.std.specs.declared.vec.Vec.{Vec}
use Rattle.conf_text.specs.Grammar.{IsConfiguration}
use Rattle.conf_text.specs.Trees.{Tree}
use Rattle.conf_values.specs.Numbers.{number_of}
use Rattle.relay_conf.specs.Faults.{HasNoFault}
use Rattle.relay_conf.specs.declared.relay.Relay.{Relay}
use Rattle.relay_conf.specs.Relays.{IsRelayOf, AreOfWords}
use Rattle.relay_net.specs.Network.{Network, place_among, enters}
use Rattle.relay_net.specs.declared.node.Client.{Client}
use Rattle.relay_net.specs.declared.node.Node.{Node}
use Rattle.loss_rules.specs.Breaks.{Subject}
use Rattle.loss_rules.specs.Sites.{rule_at}
use Rattle.loss_rules.specs.declared.label.Duty.TheVariants as duty
use Rattle.loss_rules.specs.declared.label.Label.{Label}
use Rattle.loss_rules.specs.declared.label.Reach.{Reach}
use Rattle.loss_rules.specs.declared.label.RelayLine.{RelayLine}
use Rattle.plan_lines.specs.Forms.{LineForm, nothing, a_relay, a_client, a_label, a_reach, a_duty, no_form, line_form, relay_number}
use Rattle.text_lines.specs.Lines.{text_lines}

-- a network by its relays and its clients
abbrev pub network : {A : Type 0} → List (Node A) → List (Client A) → Network A
network relays clients = record { relays = relays; clients = clients }

-- the plan that says nothing: it asks for one output
abbrev pub empty_plan : (A : Type 0) → Subject A
empty_plan A = record {
  net = network [] [];
  relay_lines = [];
  client_lines = [];
  labels = [];
  reaches = [];
  duty = duty.Any;
}

-- Where the relay, the scope or the match stands that a line names. Relays and matches are counted
-- from 0, and so are scopes, of which the main one is the first.

-- the name of the scope that a field means: `.` is the main scope, whose name is empty
abbrev pub scope_name : List ℕ → List ℕ
scope_name word = if bytes_eq word (46 ∷ []) then [] else word

-- the place of the scope that a field means, in its relay
abbrev pub scope_of : {A : Type 0} → Relay A → List ℕ → Option ℕ
scope_of relay word =
    position (λ scope. bytes_eq (string_bytes scope.name) (scope_name word)) relay.scopes.items

-- the same, in the relay at this place
abbrev pub scope_at : {A : Type 0} → List (Node A) → ℕ → List ℕ → Option ℕ
scope_at nodes place word = option_and_then (λ node. scope_of node.relay word)
    (slice_get nodes place)

-- What a line adds to the plan of the lines before it.

-- The relay is the one that the configuration's text describes.
pub record IsRelayOfText {A : Type 0} (text : List ℕ) (relay : Relay A) : Type 0 where
  pub elements : List Tree
  pub configured : IsConfiguration text elements
  pub faultless : HasNoFault elements
  pub described : IsRelayOf elements relay

-- A relay: its configuration is that of its place among the relays.
pub record AddsRelay {A : Type 0} (confs : List (List ℕ)) (line : ℕ) (number host folder : List ℕ)
    (before after : Subject A) : Type 0 where
  pub node : Node A
  pub entry : RelayLine A
  pub number_is : relay_number number ≡ Some node.number
  pub host_is : string_bytes node.host ≡ host
  pub text : List ℕ
  pub text_is : slice_get confs (length before.net.relays) ≡ Some text
  pub relay_is : IsRelayOfText text node.relay
  pub folder_is : string_bytes entry.folder ≡ folder
  pub line_is : entry.line ≡ line
  pub after_is : after
      ≡ record before {
        net = network (before.net.relays ++ node ∷ []) before.net.clients;
        relay_lines = before.relay_lines ++ entry ∷ [];
      }

-- A client: a relay before it has its number, and a source of its port.
pub record AddsClient {A : Type 0} (line : ℕ) (number port : List ℕ) (patterns : List (List ℕ))
    (before after : Subject A) : Type 0 where
  pub client : Client A
  pub number_is : relay_number number ≡ Some client.relay
  pub port_is : number_of port ≡ Some client.port
  pub source_is : enters before.net.relays client ≡ true
  pub patterns_are : AreOfWords patterns client.patterns.items
  pub after_is : after
      ≡ record before {
        net = network before.net.relays (before.net.clients ++ client ∷ []);
        client_lines = before.client_lines ++ line ∷ [];
      }

-- Tags that may reach a scope of a relay before the line.
pub record AddsLabel {A : Type 0} (line : ℕ) (number scope : List ℕ) (patterns : List (List ℕ))
    (before after : Subject A) : Type 0 where
  pub label : Label A
  pub meant : ℕ
  pub number_is : relay_number number ≡ Some meant
  pub place_is : place_among before.net.relays meant ≡ Some label.place
  pub scope_is : scope_at before.net.relays label.place scope ≡ Some label.scope
  pub patterns_are : AreOfWords patterns label.patterns.items
  pub line_is : label.line ≡ line
  pub after_is : after ≡ record before { labels = before.labels ++ label ∷ [] }

-- Tags that may reach a match of a relay before the line.
pub record AddsReach {A : Type 0} (line : ℕ) (number scope index : List ℕ)
    (patterns : List (List ℕ)) (before after : Subject A) : Type 0 where
  pub reach : Reach A
  pub meant : ℕ
  pub number_is : relay_number number ≡ Some meant
  pub place_is : place_among before.net.relays meant ≡ Some reach.place
  pub scope_is : scope_at before.net.relays reach.place scope ≡ Some reach.scope
  pub rule_is : number_of index ≡ Some reach.rule
  pub rule_there : IsSome (rule_at before.net reach.place reach.scope reach.rule)
  pub patterns_are : AreOfWords patterns reach.patterns.items
  pub line_is : reach.line ≡ line
  pub after_is : after ≡ record before { reaches = before.reaches ++ reach ∷ [] }

-- what a line of this form adds
abbrev pub Adds : {A : Type 0} → List (List ℕ) → ℕ → LineForm → Subject A → Subject A → Type 0
Adds confs line nothing before after = after ≡ before
Adds confs line (a_relay number host folder conf) before after =
    AddsRelay confs line number host folder before after
Adds confs line (a_client number port patterns) before after =
    AddsClient line number port patterns before after
Adds confs line (a_label number scope patterns) before after =
    AddsLabel line number scope patterns before after
Adds confs line (a_reach number scope index patterns) before after =
    AddsReach line number scope index patterns before after
Adds confs line (a_duty asked) before after = after ≡ record before { duty = asked }
Adds confs line no_form before after = ⊥

-- These lines, from the first of the text on, say this plan: no lines say nothing, and each line
-- adds to what those before it say. Lines are counted from 1.
pub data Say {A : Type 0} (confs : List (List ℕ)) : List (List ℕ) → Subject A → Type 0 where
  none : Say confs [] (empty_plan A)
  one_more : {lines : List (List ℕ)} {before after : Subject A} (line : List ℕ)
      → Say confs lines before
      → Adds confs (length lines + 1) (line_form line) before after
      → Say confs (lines ++ line ∷ []) after

-- the bytes of each text
abbrev pub texts : {A : Type 0} → List (Vec ℕ A) → List (List ℕ)
texts confs = map (λ conf. conf.items) confs

-- the plan that the text says, where these are the configurations that it names
abbrev pub IsPlanOf : {A : Type 0} → List ℕ → List (List ℕ) → Subject A → Type 0
IsPlanOf text confs plan = Say confs (text_lines text) plan
