-- Which relay is the first with a source of an address.
use Rattle.std.specs.Prelude.{◌≡◌, ℕ, suc, Bool, cond, List, [], ◌∷◌, Option, Some, None, is_some}
use Rattle.std.specs.Prelude.{Vec}
use Rattle.std.specs.Option.{option_and_then}
use Rattle.std.specs.Ordering.{nat_cmp}
use Rattle.std.specs.Cmp.Lexicographic.{slice_cmp}
use Rattle.std.specs.BTreeMap.{BTreeMap, get, get_by}
use Rattle.relay_net.specs.Addresses.{Address}
use Rattle.relay_net.specs.Network.{source_at}
use Rattle.relay_net.specs.declared.node.Node.{Node}
use Rattle.relay_net.specs.declared.sources.SourceIndex.{SourceIndex}

-- the place that these hosts and their ports have for an address
abbrev pub place_at : {A : Type 0} → BTreeMap (Vec ℕ A) (BTreeMap ℕ ℕ) → Address → Option ℕ
place_at hosts address = option_and_then (λ ports. get nat_cmp ports address.port)
    (get_by (λ key. slice_cmp nat_cmp address.host key.items) hosts)

-- the place that the index has for an address
abbrev pub first_place : {A : Type 0} → SourceIndex A → Address → Option ℕ
first_place index address = place_at index.hosts address

-- the relay has a source of this address
abbrev pub has_source : {A : Type 0} → Node A → Address → Bool
has_source node address = is_some (source_at node address)

-- the place of the first of these relays with a source of this address, where this is the place of
-- the first of them
abbrev pub among_nodes : {A : Type 0} → ℕ → List (Node A) → Address → Option ℕ
among_nodes place [] address = None
among_nodes place (node ∷ nodes) address = cond (has_source node address) (Some place)
    (among_nodes (suc place) nodes address)

-- The index has the first relay with a source of each address.
abbrev pub IsSourceIndex : {A B : Type 0} → SourceIndex A → List (Node B) → Type 0
IsSourceIndex index nodes = (address : Address)
    → first_place index address ≡ among_nodes 0 nodes address
