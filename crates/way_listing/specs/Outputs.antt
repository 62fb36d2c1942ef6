-- How the outputs of a relay are printed.
use Rattle.std.specs.Prelude.{ℕ, List, [], ◌++◌, codes, decimal, string_bytes}
use Rattle.std.specs.List.{flat_map}
use Rattle.std.specs.Option.{option_map_or}
use Rattle.relay_conf.specs.declared.output.Output.{Output}
use Rattle.relay_conf.specs.declared.output.Output.TheVariants as output
use Rattle.relay_conf.specs.declared.output.Server.{Server}
use Rattle.relay_conf.specs.declared.relay.Relay.{Relay}
use Rattle.relay_conf.specs.declared.relay.Scope.{Scope}
use Rattle.relay_net.specs.Network.{output_of}

-- a server, behind a space: its host, a colon and its port
abbrev pub server_text : {A : Type 0} → Server A → List ℕ
server_text server = codes " " ++ string_bytes server.host ++ codes ":" ++ decimal server.port

-- an output that has a buffer: ` file` and the sink's path, or ` forward` and each server in the
-- order of the text
abbrev pub output_text : {A : Type 0} → Output A → List ℕ
output_text (output.Null line) = []
output_text (output.Relabel target line) = []
output_text (output.Forward settings line) = codes " forward"
    ++ flat_map server_text settings.servers.items
output_text (output.File settings line) = codes " file " ++ string_bytes settings.path

-- the output that has this buffer
abbrev pub buffer_text : {A : Type 0} → Relay A → ℕ → List ℕ
buffer_text relay buffer = option_map_or output_text (output_of relay buffer) []

-- the outputs of a scope, in the order of the text
abbrev pub outputs_in : {A : Type 0} → Scope A → List (Output A)
outputs_in scope = flat_map (λ rule. rule.outputs.items) scope.matches.items
