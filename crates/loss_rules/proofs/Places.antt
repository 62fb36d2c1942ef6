-- Where matches, outputs and servers stand, in other words.
use Rattle.std.proofs.Common.{◌≡◌, ℕ, List, Option, Some, None, slice_get, refl, sym, ap, ◌∙◌, Contains}
use Rattle.std.specs.Prelude.{option_map}
use Rattle.std.specs.Option.{option_and_then}
use Rattle.std.proofs.lemmas.Option.{same_Some, slice_get_within, slice_get-get_or, get_or_from_slice_get, option_and_then_some}
use Rattle.relay_conf.specs.declared.output.Output.{Output}
use Rattle.relay_conf.specs.declared.output.Server.{Server}
use Rattle.relay_conf.specs.declared.relay.MatchRule.{MatchRule}
use Rattle.relay_conf.specs.declared.relay.Relay.{Relay}
use Rattle.relay_conf.specs.declared.relay.Scope.{Scope}
use Rattle.relay_net.specs.Network.{Network, relay_at}
use Rattle.relay_net.specs.Outputs.{servers_of}
use Rattle.relay_net.specs.declared.node.Node.{Node}
use Rattle.loss_rules.specs.Everywhere.{AreInConf, BreaksAtMatch, BreaksAtOutput, BreaksAtServer}
use Rattle.loss_rules.specs.Lines.{KeptInList, BrokenInList, KeptInRelay, BrokenInRelay, BrokenInNet}
use Rattle.loss_rules.specs.Sites.{rule_at, output_in_rule, EachMatch, EachOutput, EachServer, line_of}
use Rattle.loss_rules.specs.declared.answer.Place.{Place}
use Rattle.loss_rules.proofs.Relays.{same_conf}

-- an element of a list is contained in it, and the other way round
pub contained : {X : Type 0} (xs : List X) (n : ℕ) (x : X) → slice_get xs n ≡ Some x → Contains xs x
contained xs n x is = (n, slice_get_within xs n x is, get_or_from_slice_get xs n x x is)

pub place_of_contained : {X : Type 0} (xs : List X) (x : X) → Contains xs x → (n : ℕ) × (slice_get xs n ≡ Some x)
place_of_contained xs x h = (h.0, slice_get-get_or xs h.0 x h.1 ∙ ap Some h.2)

module _ {A : Type 0} where
  -- Where a match stands: a relay, a scope of it, and a place there.
  pub record Stands (net : Network A) (place scope rule : ℕ) (found : MatchRule A) : Type 0 where
    pub node : Node A
    pub node_is : slice_get net.relays place ≡ Some node
    pub within : Scope A
    pub within_is : slice_get node.relay.scopes.items scope ≡ Some within
    pub found_is : slice_get within.matches.items rule ≡ Some found

  mapped : (o : Option (Node A)) (relay : Relay A) → option_map (λ node. node.relay) o ≡ Some relay → (node : Node A) × (o ≡ Some node) × (node.relay ≡ relay)
  mapped None relay h = absurd (cc)
  mapped (Some node) relay h = (node, refl, same_Some node.relay relay h)

  pub stands : (net : Network A) (place scope rule : ℕ) (found : MatchRule A) → rule_at net place scope rule ≡ Some found → Stands net place scope rule found
  stands net place scope rule found h =
      option_and_then_some (λ s. slice_get s.matches.items rule) (option_and_then (λ relay. slice_get relay.scopes.items scope) (relay_at net place)) found h (λ within there at.
      option_and_then_some (λ relay. slice_get relay.scopes.items scope) (relay_at net place) within there (λ relay is inside.
      let m : (node : Node A) × (slice_get net.relays place ≡ Some node) × (node.relay ≡ relay) = mapped (slice_get net.relays place) relay is in
      record { node = m.0; node_is = m.1; within = within; within_is = ap (λ r. slice_get r.scopes.items scope) m.2 ∙ inside; found_is = at }))

  pub rule_there : (net : Network A) (place scope rule : ℕ) (found : MatchRule A) (node : Node A) (within : Scope A) → slice_get net.relays place ≡ Some node
      → slice_get node.relay.scopes.items scope ≡ Some within → slice_get within.matches.items rule ≡ Some found → rule_at net place scope rule ≡ Some found
  rule_there net place scope rule found node within node_is within_is found_is = rw (node_is, within_is) found_is

  -- What is kept at each match of each relay is kept at each match.
  pub each_match : (net : Network A) (K : ℕ → ℕ → ℕ → MatchRule A → Type 0) → ((place : ℕ) (node : Node A) → slice_get net.relays place ≡ Some node → KeptInRelay (K place) node.relay) → EachMatch net K
  each_match net K h place scope rule found is = let s : Stands net place scope rule found = stands net place scope rule found is in h place s.node s.node_is scope s.within s.within_is rule found s.found_is

  -- What is broken in a line of the network is so in its relay, and the other way round.
  pub in_relay : (net : Network A) (B : ℕ → ℕ → ℕ → MatchRule A → ℕ → Type 0) (place line : ℕ) (node : Node A) → slice_get net.relays place ≡ Some node
      → BrokenInNet net B place line → BrokenInRelay (B place) node.relay line
  in_relay net B place line node is (scope, rule, found, at, broken) =
      let s : Stands net place scope rule found = stands net place scope rule found at in
      let same : s.node ≡ node = same_Some s.node node (sym s.node_is ∙ is) in
      (scope, s.within, ap (λ n. slice_get n.relay.scopes.items scope) (sym same) ∙ s.within_is, (rule, found, s.found_is, broken))

  pub in_net : (net : Network A) (B : ℕ → ℕ → ℕ → MatchRule A → ℕ → Type 0) (place line : ℕ) (node : Node A) → slice_get net.relays place ≡ Some node
      → BrokenInRelay (B place) node.relay line → BrokenInNet net B place line
  in_net net B place line node is (scope, within, within_is, (rule, found, found_is, broken)) = (scope, rule, found, rule_there net place scope rule found node within is within_is found_is, broken)

  -- the relay that a place of the network is in
  pub node_of_broken : (net : Network A) (B : ℕ → ℕ → ℕ → MatchRule A → ℕ → Type 0) (place line : ℕ) → BrokenInNet net B place line → (node : Node A) × (slice_get net.relays place ≡ Some node)
  node_of_broken net B place line (scope, rule, found, at, broken) = let s : Stands net place scope rule found = stands net place scope rule found at in (s.node, s.node_is)

  -- Outputs of matches.

  pub output_there : (net : Network A) (place scope rule output : ℕ) (found : MatchRule A) (other : Output A) → rule_at net place scope rule ≡ Some found → slice_get found.outputs.items output ≡ Some other
      → output_in_rule net place scope rule output ≡ Some other
  output_there net place scope rule output found other is at = ap (option_and_then (λ m. slice_get m.outputs.items output)) is ∙ at

  -- a relay that isn't there has no output
  pub no_output : (net : Network A) (place scope rule output : ℕ) (other : Output A) → slice_get net.relays place ≡ None → ¬ (output_in_rule net place scope rule output ≡ Some other)
  no_output net place scope rule output other none is =
      option_and_then_some (λ m. slice_get m.outputs.items output) (rule_at net place scope rule) other is (λ found there at.
      let s : Stands net place scope rule found = stands net place scope rule found there in
      let clash : Some s.node ≡ None = sym s.node_is ∙ none in absurd (cc))

  pub each_output : (net : Network A) (K : ℕ → ℕ → ℕ → ℕ → Output A → Type 0) → EachMatch net (λ place scope rule found. KeptInList (K place scope rule) found.outputs.items) → EachOutput net K
  each_output net K h place scope rule output other is =
      option_and_then_some (λ m. slice_get m.outputs.items output) (rule_at net place scope rule) other is (λ found there at. h place scope rule found there output other at)

  -- what is broken at an output of a match, by the match
  abbrev pub AtOutputs : (ℕ → ℕ → ℕ → ℕ → Output A → ℕ → Type 0) → ℕ → ℕ → ℕ → MatchRule A → ℕ → Type 0
  AtOutputs B place scope rule found line = BrokenInList (λ output other l. B place scope rule output other l) found.outputs.items line

  pub to_outputs : (net : Network A) (P : ℕ → ℕ → ℕ → ℕ → Output A → Type 0) (place line : ℕ)
      → BrokenInNet net (AtOutputs (λ p s r o other l. (line_of other ≡ l) × ¬ P p s r o other)) place line → BreaksAtOutput net P place line
  to_outputs net P place line (scope, rule, found, is, (output, other, at, broken)) = ((scope, rule, output, other), (output_there net place scope rule output found other is at, broken.0), broken.1)

  pub from_outputs : (net : Network A) (P : ℕ → ℕ → ℕ → ℕ → Output A → Type 0) (place line : ℕ)
      → BreaksAtOutput net P place line → BrokenInNet net (AtOutputs (λ p s r o other l. (line_of other ≡ l) × ¬ P p s r o other)) place line
  from_outputs net P place line ((scope, rule, output, other), (is, at), broken) =
      option_and_then_some (λ m. slice_get m.outputs.items output) (rule_at net place scope rule) other is (λ found there o. (scope, rule, found, there, (output, other, o, (at, broken))))

  -- Servers of outputs.

  pub each_server : (net : Network A) (K : ℕ → ℕ → ℕ → Server A → Type 0) → EachOutput net (λ place scope rule output other. KeptInList (λ number server. K place scope rule server) (servers_of other)) → EachServer net K
  each_server net K h place scope rule output other is server within =
      let at : (n : ℕ) × (slice_get (servers_of other) n ≡ Some server) = place_of_contained (servers_of other) server within in h place scope rule output other is at.0 server at.1

  pub to_servers : (net : Network A) (P : ℕ → ℕ → ℕ → Server A → Type 0) (place line : ℕ)
      → BrokenInNet net (AtOutputs (λ p s r o other l. BrokenInList (λ number server at. (server.line ≡ at) × ¬ P p s r server) (servers_of other) l)) place line → BreaksAtServer net P place line
  to_servers net P place line (scope, rule, found, is, (output, other, at, (number, server, server_is, broken))) =
      ((scope, rule, output, other, server), (output_there net place scope rule output found other is at, contained (servers_of other) number server server_is, broken.0), broken.1)

  pub from_servers : (net : Network A) (P : ℕ → ℕ → ℕ → Server A → Type 0) (place line : ℕ)
      → BreaksAtServer net P place line → BrokenInNet net (AtOutputs (λ p s r o other l. BrokenInList (λ number server at. (server.line ≡ at) × ¬ P p s r server) (servers_of other) l)) place line
  from_servers net P place line ((scope, rule, output, other, server), (is, within, at), broken) =
      let there : (n : ℕ) × (slice_get (servers_of other) n ≡ Some server) = place_of_contained (servers_of other) server within in
      option_and_then_some (λ m. slice_get m.outputs.items output) (rule_at net place scope rule) other is (λ found m o. (scope, rule, found, m, (output, other, o, (there.0, server, there.1, (at, broken)))))

  -- Matches themselves.

  pub to_matches : (net : Network A) (P : ℕ → ℕ → ℕ → MatchRule A → Type 0) (place line : ℕ)
      → BrokenInNet net (λ p s r found l. (found.line ≡ l) × ¬ P p s r found) place line → BreaksAtMatch net P place line
  to_matches net P place line (scope, rule, found, is, broken) = ((scope, rule, found), (is, broken.0), broken.1)

  pub from_matches : (net : Network A) (P : ℕ → ℕ → ℕ → MatchRule A → Type 0) (place line : ℕ)
      → BreaksAtMatch net P place line → BrokenInNet net (λ p s r found l. (found.line ≡ l) × ¬ P p s r found) place line
  from_matches net P place line ((scope, rule, found), (is, at), broken) = (scope, rule, found, is, (at, broken))

  -- The places of these.

  pub match_places : (net : Network A) (P : ℕ → ℕ → ℕ → MatchRule A → Type 0) (places : List Place) → AreInConf net (BrokenInNet net (λ p s r found l. (found.line ≡ l) × ¬ P p s r found)) places → AreInConf net (BreaksAtMatch net P) places
  match_places net P places = same_conf net (BrokenInNet net (λ p s r found l. (found.line ≡ l) × ¬ P p s r found)) (BreaksAtMatch net P) (to_matches net P) (from_matches net P) places

  pub output_places : (net : Network A) (P : ℕ → ℕ → ℕ → ℕ → Output A → Type 0) (places : List Place)
      → AreInConf net (BrokenInNet net (AtOutputs (λ p s r o other l. (line_of other ≡ l) × ¬ P p s r o other))) places → AreInConf net (BreaksAtOutput net P) places
  output_places net P places = same_conf net (BrokenInNet net (AtOutputs (λ p s r o other l. (line_of other ≡ l) × ¬ P p s r o other))) (BreaksAtOutput net P) (to_outputs net P) (from_outputs net P) places

  pub server_places : (net : Network A) (P : ℕ → ℕ → ℕ → Server A → Type 0) (places : List Place)
      → AreInConf net (BrokenInNet net (AtOutputs (λ p s r o other l. BrokenInList (λ number server n. (server.line ≡ n) × ¬ P p s r server) (servers_of other) l))) places → AreInConf net (BreaksAtServer net P) places
  server_places net P places = same_conf net (BrokenInNet net (AtOutputs (λ p s r o other l. BrokenInList (λ number server n. (server.line ≡ n) × ¬ P p s r server) (servers_of other) l))) (BreaksAtServer net P) (to_servers net P) (from_servers net P) places

  -- Outputs of one relay.

  pub kept_outputs : (net : Network A) (place : ℕ) (node : Node A) (K : ℕ → ℕ → ℕ → Output A → Type 0) → slice_get net.relays place ≡ Some node
      → KeptInRelay (λ scope rule found. KeptInList (K scope rule) found.outputs.items) node.relay
      → (scope rule output : ℕ) (other : Output A) → output_in_rule net place scope rule output ≡ Some other → K scope rule output other
  kept_outputs net place node K is h scope rule output other there =
      option_and_then_some (λ m. slice_get m.outputs.items output) (rule_at net place scope rule) other there (λ found at o.
      let s : Stands net place scope rule found = stands net place scope rule found at in
      let same : s.node ≡ node = same_Some s.node node (sym s.node_is ∙ is) in
      h scope s.within (ap (λ n. slice_get n.relay.scopes.items scope) (sym same) ∙ s.within_is) rule found s.found_is output other o)

  pub broken_output : (net : Network A) (place : ℕ) (node : Node A) (K : ℕ → ℕ → ℕ → Output A → Type 0) (line : ℕ) → slice_get net.relays place ≡ Some node
      → BrokenInRelay (λ scope rule found l. BrokenInList (λ output other n. (line_of other ≡ n) × ¬ K scope rule output other) found.outputs.items l) node.relay line
      → ¬ ((scope rule output : ℕ) (other : Output A) → output_in_rule net place scope rule output ≡ Some other → K scope rule output other)
  broken_output net place node K line is (scope, within, within_is, (rule, found, found_is, (output, other, at, broken))) all =
      broken.1 (all scope rule output other (output_there net place scope rule output found other (rule_there net place scope rule found node within is within_is found_is) at))
