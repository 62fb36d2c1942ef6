-- Where matches, outputs and servers stand in the configurations of a network.
use Rattle.std.specs.Prelude.{◌≡◌, ℕ, List, [], Option, Some, length, slice_get, Contains}
use Rattle.std.specs.Option.{option_and_then, option_map_or}
use Rattle.relay_conf.specs.declared.output.Output.{Output}
use Rattle.relay_conf.specs.declared.output.Output.TheVariants as output
use Rattle.relay_conf.specs.declared.output.Server.{Server}
use Rattle.relay_conf.specs.declared.relay.MatchRule.{MatchRule}
use Rattle.relay_net.specs.Network.{Network, relay_at}
use Rattle.relay_conf.specs.Buffers.{buffer_number}
use Rattle.relay_net.specs.Outputs.{servers_of}

-- the match with this place in this scope of the relay at this place, each counted from 0
abbrev pub rule_at : {A : Type 0} → Network A → ℕ → ℕ → ℕ → Option (MatchRule A)
rule_at net place scope rule = option_and_then (λ found. slice_get found.matches.items rule)
    (option_and_then (λ relay. slice_get relay.scopes.items scope) (relay_at net place))

-- the matches of this scope of the relay at this place, in the order of the text; none, where there
-- is no such scope
abbrev pub matches_at : {A : Type 0} → Network A → ℕ → ℕ → List (MatchRule A)
matches_at net place scope = option_map_or (λ found. found.matches.items)
    (option_and_then (λ relay. slice_get relay.scopes.items scope) (relay_at net place)) []

-- how many scopes the relay at this place has; one that isn't there has none
abbrev pub scope_count_of : {A : Type 0} → Network A → ℕ → ℕ
scope_count_of net place = option_map_or (λ relay. length relay.scopes.items) (relay_at net place) 0

-- the output with this place among those of that match
abbrev pub output_in_rule : {A : Type 0} → Network A → ℕ → ℕ → ℕ → ℕ → Option (Output A)
output_in_rule net place scope rule output =
    option_and_then (λ found. slice_get found.outputs.items output) (rule_at net place scope rule)

-- This holds of each match, by the places of its relay, of its scope and of itself.
abbrev pub EachMatch : {A : Type 0} → Network A → (ℕ → ℕ → ℕ → MatchRule A → Type 0) → Type 0
EachMatch {A} net P = (place scope rule : ℕ) (found : MatchRule A) → rule_at net place scope rule
    ≡ Some found → P place scope rule found

-- This holds of each output, by the places of its relay, of its scope, of its match and of itself.
abbrev pub EachOutput : {A : Type 0} → Network A → (ℕ → ℕ → ℕ → ℕ → Output A → Type 0) → Type 0
EachOutput {A} net P = (place scope rule output : ℕ) (found : Output A)
    → output_in_rule net place scope rule output ≡ Some found → P place scope rule output found

-- This holds of each server of each output, by the places of the relay, of the scope and of the
-- match.
abbrev pub EachServer : {A : Type 0} → Network A → (ℕ → ℕ → ℕ → Server A → Type 0) → Type 0
EachServer {A} net P = EachOutput net (λ place scope rule output found. (server : Server A)
    → Contains (servers_of found) server → P place scope rule server)

-- the line of an output: that of its `<store>`, or of its `<match>` without a copy
abbrev pub line_of : {A : Type 0} → Output A → ℕ
line_of (output.Null line) = line
line_of (output.Relabel target line) = line
line_of (output.Forward settings line) = line
line_of (output.File settings line) = line

-- In this line of the configuration of the relay at this place stands this match, with the places
-- of its scope and of itself.
abbrev pub MatchStands : {A : Type 0} → Network A → ℕ → ℕ → ℕ × ℕ × MatchRule A → Type 0
MatchStands net place line x = (rule_at net place x.0 x.1 ≡ Some x.2) × (x.2.line ≡ line)

-- There stands this output, with the places of its scope, of its match and of itself.
abbrev pub OutputStands : {A : Type 0} → Network A → ℕ → ℕ → ℕ × ℕ × ℕ × Output A → Type 0
OutputStands net place line x = (output_in_rule net place x.0 x.1 x.2 ≡ Some x.3)
    × (line_of x.3 ≡ line)

-- There stands this server, with the places of the scope, the match and the output that has it.
abbrev pub ServerStands : {A : Type 0} → Network A → ℕ → ℕ → ℕ × ℕ × ℕ × Output A × Server A
    → Type 0
ServerStands net place line x = (output_in_rule net place x.0 x.1 x.2 ≡ Some x.3)
    × Contains (servers_of x.3) x.4 × (x.4.line ≡ line)

-- The output sends its events on to this scope.
abbrev pub RelabelsTo : {A : Type 0} → Output A → ℕ → Type 0
RelabelsTo (output.Relabel target line) scope = target.0 ≡ scope
RelabelsTo _ scope = ⊥

-- In no relay two outputs share a buffer: where two have one number, they stand at one place.
abbrev pub BuffersAreDistinct : {A : Type 0} → Network A → Type 0
BuffersAreDistinct {A} net = (place scope rule output s r o buffer : ℕ) (found other : Output A)
    → output_in_rule net place scope rule output ≡ Some found
    → output_in_rule net place s r o ≡ Some other
    → buffer_number found ≡ Some buffer → buffer_number other ≡ Some buffer
    → (s ≡ scope) × (r ≡ rule) × (o ≡ output)
