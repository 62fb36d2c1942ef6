-- The network: where an address leads, and what outputs a relay has.
use Rattle.std.specs.Prelude.{◌==◌, ℕ, suc, Bool, false, cond, List, [], ◌∷◌, Option, None, option_map, slice_get, find, position, is_some, is_none, string_bytes}
use Rattle.std.specs.List.{flat_map, list_all}
use Rattle.std.specs.Option.{option_and_then, option_map_or, option_or}
use Rattle.std.specs.Str.{bytes_eq}
use Rattle.relay_conf.specs.declared.relay.Relay.{Relay}
use Rattle.relay_conf.specs.declared.relay.Source.{Source}
use Rattle.relay_conf.specs.declared.output.Output.{Output}
use Rattle.relay_conf.specs.declared.output.Server.{Server}
use Rattle.tag_pattern.specs.Prefixes.{entered_tag}
use Rattle.relay_net.specs.Addresses.{Address}
use Rattle.relay_conf.specs.Buffers.{buffer_number}
use Rattle.relay_conf.specs.BufferSection.{kind_view}
use Rattle.relay_net.specs.Outputs.{settings_of}
use Rattle.relay_net.specs.declared.address.Entrance.{Entrance}
use Rattle.relay_net.specs.declared.node.Client.{Client}
use Rattle.relay_net.specs.declared.node.Node.{Node}

-- a network: its relays, and those who send to them, each in the order of the plan; clients are
-- numbered from 0
pub record Network (A : Type 0) : Type 0 where
  pub relays : List (Node A)
  pub clients : List (Client A)

-- Relays are numbered, and of equal numbers the first is meant.

-- the place of the first of these relays with this number
abbrev pub place_among : {A : Type 0} → List (Node A) → ℕ → Option ℕ
place_among nodes number = position (λ node. node.number == number) nodes

-- the place of the relay that this number means
abbrev pub place_of : {A : Type 0} → Network A → ℕ → Option ℕ
place_of net number = place_among net.relays number

-- the relay at this place
abbrev pub relay_at : {A : Type 0} → Network A → ℕ → Option (Relay A)
relay_at net place = option_map (λ node. node.relay) (slice_get net.relays place)

-- the relay that this number means
abbrev pub node_of : {A : Type 0} → List (Node A) → ℕ → Option (Node A)
node_of nodes number = find (λ node. node.number == number) nodes

-- Addresses: a host, compared as a text, and a port.

-- the first source of the relay with this port
abbrev pub source_of_port : {A : Type 0} → Relay A → ℕ → Option (Source A)
source_of_port relay port = find (λ source. source.port == port) relay.sources.items

-- the first source of the relay with this address, if there is one
abbrev pub source_at : {A : Type 0} → Node A → Address → Option (Source A)
source_at node address = cond (bytes_eq (string_bytes node.host) address.host)
    (source_of_port node.relay address.port) None

-- the first of these relays' sources with this address, behind the place of its relay, where this is
-- the place of the first of them
abbrev pub first_source : {A : Type 0} → ℕ → List (Node A) → Address → Option (ℕ × Source A)
first_source place [] address = None
first_source place (node ∷ nodes) address =
    option_or (option_map (λ source. (place, source)) (source_at node address))
    (first_source (suc place) nodes address)

-- where a message to this address comes in: the first source of the plan that has it
abbrev pub entrance : {A : Type 0} → Network A → Address → Option Entrance
entrance net address =
    option_map (λ found. record { relay = found.0; scope = found.1.label.0 })
    (first_source 0 net.relays address)

-- what is put in front of the tags of messages to this address: the prefix of the first source of
-- the plan that has it
abbrev pub prefix_at : {A : Type 0} → Network A → Address → Option (List ℕ)
prefix_at net address =
    option_and_then (λ found. found.1.prefix) (first_source 0 net.relays address)

-- the tag that the events of a message with this tag bear where it comes in, if it is sent to this
-- address
abbrev pub tag_at : {A : Type 0} → Network A → Address → List ℕ → List ℕ
tag_at net address tag = entered_tag (prefix_at net address) tag

-- the address that a client sends to: the host of the relay that its number means (empty where it
-- means none), and its port
abbrev pub address_of_client : {A : Type 0} → Network A → Client A → Address
address_of_client net client =
    record {
      host = option_map_or (λ node. string_bytes node.host) (node_of net.relays client.relay) [];
      port = client.port;
    }

-- the address of a server
abbrev pub address_of_server : {A : Type 0} → Server A → Address
address_of_server server = record { host = string_bytes server.host; port = server.port }

-- the relay that the client's number means has a source of its port
abbrev pub enters : {A : Type 0} → List (Node A) → Client A → Bool
enters nodes client = option_map_or (λ node. is_some (source_of_port node.relay client.port))
    (node_of nodes client.relay) false

-- each client sends to a source
abbrev pub all_enter : {A : Type 0} → List (Node A) → List (Client A) → Bool
all_enter nodes clients = list_all (enters nodes) clients

-- Outputs and their buffers.

-- all outputs of a relay, in the order of the text
abbrev pub outputs_of : {A : Type 0} → Relay A → List (Output A)
outputs_of relay = flat_map (λ scope. flat_map (λ rule. rule.outputs.items) scope.matches.items)
    relay.scopes.items

-- the output of this buffer of a relay; of equal numbers the first is meant
abbrev pub output_of : {A : Type 0} → Relay A → ℕ → Option (Output A)
output_of relay buffer = find
    (λ o. option_map_or (λ number. number == buffer) (buffer_number o) false) (outputs_of relay)

-- the output of this buffer of the relay at this place
abbrev pub output_at : {A : Type 0} → Network A → ℕ → ℕ → Option (Output A)
output_at net place buffer = option_and_then (λ relay. output_of relay buffer) (relay_at net place)

-- the chunks of this buffer are in memory
abbrev pub is_in_memory : {A : Type 0} → Network A → ℕ → ℕ → Bool
is_in_memory net place buffer = option_map_or (λ settings. is_none (kind_view settings.kind))
    (option_and_then settings_of (output_at net place buffer)) false
