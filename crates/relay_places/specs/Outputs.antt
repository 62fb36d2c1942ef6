-- The outputs of a relay that have buffers.
use Rattle.std.specs.Prelude.{ℕ, Bool, true, false, List, Option, Some, None, filter}
use Rattle.std.specs.List.{flat_map}
use Rattle.relay_conf.specs.declared.buffer.BufferSettings.{BufferSettings}
use Rattle.relay_conf.specs.declared.output.Output.{Output}
use Rattle.relay_conf.specs.declared.output.Output.TheVariants as output
use Rattle.relay_conf.specs.declared.relay.MatchRule.{MatchRule}
use Rattle.relay_conf.specs.declared.relay.Relay.{Relay}
use Rattle.relay_conf.specs.declared.relay.Scope.{Scope}

-- whether an output has a buffer
abbrev pub has_buffer : {A : Type 0} → Output A → Bool
has_buffer (output.Null line) = false
has_buffer (output.Relabel target line) = false
has_buffer (output.Forward settings line) = true
has_buffer (output.File settings line) = true

-- the line where it begins
abbrev pub line_of : {A : Type 0} → Output A → ℕ
line_of (output.Null line) = line
line_of (output.Relabel target line) = line
line_of (output.Forward settings line) = line
line_of (output.File settings line) = line

-- the settings of its buffer, if it has one
abbrev pub settings_of : {A : Type 0} → Output A → Option (BufferSettings A)
settings_of (output.Null line) = None
settings_of (output.Relabel target line) = None
settings_of (output.Forward settings line) = Some settings.buffer
settings_of (output.File settings line) = Some settings.buffer

-- the outputs of a match that have buffers, in the order of the text
abbrev pub of_rule : {A : Type 0} → MatchRule A → List (Output A)
of_rule rule = filter has_buffer rule.outputs.items

-- those of a scope
abbrev pub of_scope : {A : Type 0} → Scope A → List (Output A)
of_scope scope = flat_map of_rule scope.matches.items

-- those of a relay
abbrev pub outputs_of : {A : Type 0} → Relay A → List (Output A)
outputs_of relay = flat_map of_scope relay.scopes.items
