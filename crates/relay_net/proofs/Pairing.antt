-- What is looked up for one more relay, and what that says of the network.
use Rattle.std.proofs.Common.{◌≡◌, ℕ, zero, suc, ◌+◌, ◌<◌, List, [], ◌∷◌, ◌++◌, take, get_or, length, Option, Some, None, slice_get, refl, sym, ap, subst, ◌∙◌, arith}
use Rattle.std.specs.Prelude.{option_map, unwrap_or}
use Rattle.std.specs.Option.{option_map_or, option_and_then}
use Rattle.std.proofs.lemmas.Option.{same_Some, slice_get-map}
use Rattle.std.proofs.lemmas.List.{map-append, length-map, take_more}
use Rattle.route_graph.specs.Table.{table_of}
use Rattle.relay_net.specs.Index.{IsIndexOf, output_in, place_in}
use Rattle.relay_net.specs.Lookups.{IsLookup, AreLookups}
use Rattle.relay_net.specs.Network.{output_at}
use Rattle.relay_net.specs.Ways.{table_at}
use Rattle.relay_net.specs.declared.lookup.Lookup.{Lookup}
use Rattle.relay_net.specs.declared.node.Client.{Client}
use Rattle.relay_net.specs.declared.node.Node.{Node}

-- the elements up to the place and the one there
pub taken_more : {X : Type 0} (xs : List X) (place : ℕ) (x : X) → place < length xs → x ≡ get_or xs place x → take (place + 1) xs ≡ take place xs ++ x ∷ []
taken_more xs place x less is = take_more xs place x less ∙ ap (λ y. take place xs ++ y ∷ []) (sym is)

-- the indexes are those of the relays
abbrev pub AreIndexes : {A : Type 0} → List (Lookup A) → List (Node A) → Type 0
AreIndexes {A} lookups nodes = (place : ℕ) (lookup : Lookup A) (node : Node A) → slice_get lookups place ≡ Some lookup → slice_get nodes place ≡ Some node → IsIndexOf lookup.outputs node.relay

pub one_index : {A : Type 0} (lookups : List (Lookup A)) (nodes : List (Node A)) (last : Lookup A) (new : Node A) → length lookups ≡ length nodes → AreIndexes lookups nodes → IsIndexOf last.outputs new.relay
    → AreIndexes (lookups ++ last ∷ []) (nodes ++ new ∷ [])
one_index [] [] last new same h is zero lookup node e k =
    subst (λ (l : Lookup _). IsIndexOf l.outputs node.relay) (same_Some last lookup e) (subst (λ (n : Node _). IsIndexOf last.outputs n.relay) (same_Some new node k) is)
one_index [] [] last new same h is (suc place) lookup node e k = absurd (cc e)
one_index [] (n ∷ nodes) last new same h is place lookup node e k = absurd (cc same)
one_index (l ∷ lookups) [] last new same h is place lookup node e k = absurd (cc same)
one_index (l ∷ lookups) (n ∷ nodes) last new same h is zero lookup node e k = h zero lookup node e k
one_index (l ∷ lookups) (n ∷ nodes) last new same h is (suc place) lookup node e k = one_index lookups nodes last new (omega (arith, same)) (λ p. h (suc p)) is place lookup node e k

pub same_length : {A : Type 0} (lookups : List (Lookup A)) (nodes : List (Node A)) → AreLookups lookups nodes → length lookups ≡ length nodes
same_length lookups nodes are = sym (length-map lookups (λ l. l.routes)) ∙ ap length are.routes ∙ length-map nodes (λ n. table_of n.relay)

pub one_lookup : {A : Type 0} (lookups : List (Lookup A)) (nodes : List (Node A)) (last : Lookup A) (new : Node A) → AreLookups lookups nodes → IsLookup last new.relay → AreLookups (lookups ++ last ∷ []) (nodes ++ new ∷ [])
one_lookup lookups nodes last new are is = record {
  routes = map-append (λ l. l.routes) lookups (last ∷ []) ∙ (λ i. are.routes i ++ is.routes i ∷ []) ∙ sym (map-append (λ n. table_of n.relay) nodes (new ∷ []));
  outputs = one_index lookups nodes last new (same_length lookups nodes are) are.outputs is.outputs;
}

-- before the first relay nothing is looked up
pub no_lookups : {A : Type 0} (lookups : List (Lookup A)) → lookups ≡ [] → AreLookups lookups []
no_lookups lookups e = rw e (record { routes = refl; outputs = λ place lookup node is k. absurd (cc is) })

-- the table of a relay that may be there
node_table : {A : Type 0} (found : Option (Node A)) → option_map_or table_of (option_map (λ n. n.relay) found) [] ≡ unwrap_or (option_map (λ n. table_of n.relay) found) []
node_table None = refl
node_table (Some n) = refl

look_table : {A : Type 0} (found : Option (Lookup A)) → unwrap_or (option_map (λ l. l.routes) found) [] ≡ option_map_or (λ l. l.routes) found []
look_table None = refl
look_table (Some l) = refl

-- the table of the relay at a place is the one that is looked up
pub tables_are : {A : Type 0} (lookups : List (Lookup A)) (nodes : List (Node A)) (clients : List (Client A)) → AreLookups lookups nodes → (place : ℕ)
    → table_at (record { relays = nodes; clients = clients }) place ≡ option_map_or (λ l. l.routes) (slice_get lookups place) []
tables_are lookups nodes clients are place =
    node_table (slice_get nodes place) ∙ ap (λ o. unwrap_or o []) (sym (slice_get-map (λ n. table_of n.relay) nodes place) ∙ ap (λ l. slice_get l place) (sym are.routes) ∙ slice_get-map (λ l. l.routes) lookups place)
    ∙ look_table (slice_get lookups place)

-- the output of a relay that is there is the one that is looked up
pub output_is : {A : Type 0} (lookups : List (Lookup A)) (nodes : List (Node A)) (clients : List (Client A)) → AreLookups lookups nodes → (place buffer : ℕ) (lookup : Lookup A) (node : Node A)
    → slice_get lookups place ≡ Some lookup → slice_get nodes place ≡ Some node → option_and_then (output_in node.relay) (place_in lookup.outputs buffer) ≡ output_at (record { relays = nodes; clients = clients }) place buffer
output_is lookups nodes clients are place buffer lookup node e k = rw k (are.outputs place lookup node e k buffer)

no_relay : {X Y Z : Type 0} (f : X → Z) (g : Y → Z) (found : Option X) (other : Option Y) → option_map f found ≡ option_map g other → other ≡ None → found ≡ None
no_relay f g None other h e = refl
no_relay f g (Some x) None h e = absurd (cc h)
no_relay f g (Some x) (Some y) h e = absurd (cc e)

-- a relay for which nothing is looked up isn't there, and has no outputs
pub no_output : {A : Type 0} (lookups : List (Lookup A)) (nodes : List (Node A)) (clients : List (Client A)) → AreLookups lookups nodes → (place buffer : ℕ)
    → slice_get lookups place ≡ None → output_at (record { relays = nodes; clients = clients }) place buffer ≡ None
no_output lookups nodes clients are place buffer e =
    let none : slice_get nodes place ≡ None = no_relay (λ n. table_of n.relay) (λ l. l.routes) (slice_get nodes place) (slice_get lookups place)
    (sym (slice_get-map (λ n. table_of n.relay) nodes place) ∙ ap (λ l. slice_get l place) (sym are.routes) ∙ slice_get-map (λ l. l.routes) lookups place) e in
    rw none refl
