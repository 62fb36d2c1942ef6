-- What is looked up for each relay of a network.
use Rattle.std.specs.Prelude.{◌≡◌, ℕ, List, map, slice_get, Some}
use Rattle.relay_conf.specs.declared.relay.Relay.{Relay}
use Rattle.route_graph.specs.Table.{table_of}
use Rattle.relay_net.specs.Index.{IsIndexOf}
use Rattle.relay_net.specs.declared.lookup.Lookup.{Lookup}
use Rattle.relay_net.specs.declared.node.Node.{Node}

-- These are the routes and the index of the relay.
pub record IsLookup {A B : Type 0} (lookup : Lookup A) (relay : Relay B) : Type 0 where
  pub routes : lookup.routes ≡ table_of relay
  pub outputs : IsIndexOf lookup.outputs relay

-- These are the routes and the indexes of the relays, one for each.
pub record AreLookups {A : Type 0} (lookups : List (Lookup A))
    (nodes : List (Node A)) : Type 0 where
  pub routes : map (λ lookup. lookup.routes) lookups ≡ map (λ node. table_of node.relay) nodes
  pub outputs : (place : ℕ) (lookup : Lookup A) (node : Node A)
      → slice_get lookups place ≡ Some lookup → slice_get nodes place ≡ Some node
      → IsIndexOf lookup.outputs node.relay
