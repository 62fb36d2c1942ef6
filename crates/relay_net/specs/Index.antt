-- Where the outputs of a relay stand.
use Rattle.std.specs.Prelude.{◌≡◌, ℕ, suc, cond, List, [], ◌∷◌, Option, Some, None}
use Rattle.std.specs.Option.{option_and_then, option_or}
use Rattle.std.specs.Ordering.{nat_cmp}
use Rattle.std.specs.BTreeMap.{get_by}
use Rattle.relay_conf.specs.declared.relay.Relay.{Relay}
use Rattle.relay_conf.specs.declared.relay.Scope.{Scope}
use Rattle.relay_conf.specs.declared.relay.MatchRule.{MatchRule}
use Rattle.relay_conf.specs.declared.output.Output.{Output}
use Rattle.relay_net.specs.Network.{output_of}
use Rattle.relay_conf.specs.Buffers.{buffer_number, output_in_relay}
use Rattle.relay_net.specs.Outputs.{is_numbered}
use Rattle.relay_net.specs.declared.index.OutputIndex.{OutputIndex}
use Rattle.relay_net.specs.declared.index.OutputPlace.{OutputPlace}

-- the output that stands at this place of a relay
abbrev pub output_in : {A : Type 0} → Relay A → OutputPlace → Option (Output A)
output_in relay place = output_in_relay relay place.scope place.rule place.output

-- the place of the first of these outputs with this buffer, where this is the place of the first of
-- them
abbrev pub among_outputs : {A : Type 0} → ℕ → ℕ → ℕ → List (Output A) → ℕ → Option OutputPlace
among_outputs scope rule output [] buffer = None
among_outputs scope rule output (o ∷ outputs) buffer =
    cond (is_numbered (buffer_number o) buffer)
    (Some (record { scope = scope; rule = rule; output = output }))
    (among_outputs scope rule (suc output) outputs buffer)

-- the same over the outputs of these matches
abbrev pub among_rules : {A : Type 0} → ℕ → ℕ → List (MatchRule A) → ℕ → Option OutputPlace
among_rules scope rule [] buffer = None
among_rules scope rule (r ∷ rules) buffer =
    option_or (among_outputs scope rule 0 r.outputs.items buffer)
    (among_rules scope (suc rule) rules buffer)

-- the same over the outputs of these scopes
abbrev pub among_scopes : {A : Type 0} → ℕ → List (Scope A) → ℕ → Option OutputPlace
among_scopes scope [] buffer = None
among_scopes scope (s ∷ scopes) buffer = option_or (among_rules scope 0 s.matches.items buffer)
    (among_scopes (suc scope) scopes buffer)

-- the place that the index has for this buffer
abbrev pub place_in : {A : Type 0} → OutputIndex A → ℕ → Option OutputPlace
place_in index buffer = get_by (nat_cmp buffer) index.places

-- The index has the output of each buffer of the relay.
abbrev pub IsIndexOf : {A B : Type 0} → OutputIndex A → Relay B → Type 0
IsIndexOf index relay = (buffer : ℕ) → option_and_then (output_in relay) (place_in index buffer)
    ≡ output_of relay buffer
