-- The names of a relay's places.
use Rattle.std.specs.Prelude.{ℕ, List, [], ◌∷◌, ◌++◌, map, codes, decimal, string_bytes}
use Rattle.std.specs.List.{flat_map}
use Rattle.relay_conf.specs.declared.output.FileSettings.{FileSettings}
use Rattle.relay_conf.specs.declared.output.Output.{Output}
use Rattle.relay_conf.specs.declared.output.Output.TheVariants as output
use Rattle.relay_conf.specs.declared.output.Server.{Server}
use Rattle.relay_conf.specs.declared.relay.Relay.{Relay}
use Rattle.relay_conf.specs.declared.relay.Source.{Source}
use Rattle.relay_places.specs.Outputs.{line_of, outputs_of}

-- the relay with its files in this folder
abbrev pub relay_name : List ℕ → List ℕ
relay_name folder = codes "relay in " ++ folder

-- a source, by its address and port
abbrev pub source_name : {A : Type 0} → Source A → List ℕ
source_name source = codes "source " ++ string_bytes source.bind ++ codes ":" ++ decimal source.port

-- an output, by its line
abbrev pub output_name : {A : Type 0} → Output A → List ℕ
output_name found = codes "output of line " ++ decimal (line_of found)

-- a server, by its host and port
abbrev pub server_name : {A : Type 0} → Server A → List ℕ
server_name server = codes "server " ++ string_bytes server.host ++ codes ":" ++ decimal server.port

-- the sink of a file output in this folder, by its path
abbrev pub sink_name : {A : Type 0} → List ℕ → FileSettings A → List ℕ
sink_name folder settings = codes "sink " ++ string_bytes settings.path ++ codes " in " ++ folder

-- what carries an output's chunks: its servers in the order of the text, or its sink
abbrev pub carrier_names : {A : Type 0} → List ℕ → Output A → List (List ℕ)
carrier_names folder (output.Null line) = []
carrier_names folder (output.Relabel target line) = []
carrier_names folder (output.Forward settings line) = map server_name settings.servers.items
carrier_names folder (output.File settings line) = sink_name folder settings ∷ []

-- The relay, its sources, the chunks of its outputs, their journals, and what carries their
-- chunks, output by output. Chunks and journals have the names of their outputs.
abbrev pub place_names : {A : Type 0} → List ℕ → Relay A → List (List ℕ)
place_names folder relay = relay_name folder ∷ map source_name relay.sources.items
    ++ map output_name (outputs_of relay)
    ++ map output_name (outputs_of relay)
    ++ flat_map (carrier_names folder) (outputs_of relay)
