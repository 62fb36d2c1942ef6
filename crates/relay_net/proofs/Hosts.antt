-- The host of a client's relay.
use Rattle.std.proofs.Common.{◌≡◌, ℕ, List, [], Some, option_map, slice_get, ap, ◌∙◌}
use Rattle.std.specs.Prelude.{string_bytes}
use Rattle.std.specs.Option.{option_map_or}
use Rattle.relay_net.specs.Network.{address_of_client, node_of}
use Rattle.relay_net.specs.declared.node.Client.{Client}
use Rattle.relay_net.specs.declared.node.Node.{Node}

-- the host of the relay that this number means
abbrev pub host_from : {A : Type 0} → List (Node A) → ℕ → List ℕ
host_from nodes number = option_map_or (λ node. string_bytes node.host) (node_of nodes number) []

-- the host of a client that was read, among relays that were read
pub client_host : {A : Type 0} (nodes found : List (Node A)) (clients : List (Client A)) (number : ℕ) (client : Client A) (host : List ℕ) → Some client ≡ slice_get clients number → found ≡ nodes → host ≡ host_from found client.relay
    → Some host ≡ option_map (λ client. (address_of_client (record { relays = nodes; clients = clients }) client).host) (slice_get clients number)
client_host {A} nodes found clients number client host at same is =
    ap (λ (h : List ℕ). Some h) (is ∙ ap (λ (ns : List (Node A)). host_from ns client.relay) same) ∙ ap (option_map (λ (c : Client A). host_from nodes c.relay)) at
