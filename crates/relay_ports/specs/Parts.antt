-- The outputs that have buffers in a part of a relay. (Words of private functions.)
use Rattle.std.specs.Prelude.{List, option_to_list}
use Rattle.std.specs.List.{flat_map}
use Rattle.relay_conf.specs.declared.output.Output.{Output}
use Rattle.relay_conf.specs.declared.relay.MatchRule.{MatchRule}
use Rattle.relay_conf.specs.declared.relay.Scope.{Scope}
use Rattle.relay_ports.specs.declared.buffered.BufferedOutput.{BufferedOutput}
use Rattle.relay_ports.specs.Outputs.{buffered}

-- an output of the configuration that has a buffer, with all that is said of it; none where it has
-- none
abbrev pub listed : {A : Type 0} → Output A → List (BufferedOutput A)
listed found = option_to_list (buffered found)

-- the outputs of a match that have buffers, in the order of the text
abbrev pub of_rule : {A : Type 0} → MatchRule A → List (BufferedOutput A)
of_rule rule = flat_map listed rule.outputs.items

-- those of a scope
abbrev pub of_scope : {A : Type 0} → Scope A → List (BufferedOutput A)
of_scope scope = flat_map of_rule scope.matches.items
