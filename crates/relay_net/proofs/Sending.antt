-- What a buffer of a relay forwards, and to which servers.
use Rattle.std.proofs.Common.{◌≡◌, ℕ, zero, suc, List, [], ◌∷◌, drop, map, Some, refl, sym, ap, subst, ◌↔◌, arith, Contains}
use Rattle.relay_conf.specs.declared.output.BufferNo.{BufferNo}
use Rattle.relay_conf.specs.declared.output.Output.{Output}
use Rattle.relay_conf.specs.declared.output.Server.{Server}
use Rattle.relay_net.specs.Network.{Network, output_at, address_of_server}
use Rattle.relay_net.specs.Outputs.{servers_of}
use Rattle.relay_net.specs.Addresses.{Address}
use Rattle.relay_net.specs.Routed.{SendsTo}
use Rattle.relay_net.specs.Ways.{table_at}
use Rattle.route_graph.specs.Listing.{numbers_of}
use Rattle.route_graph.specs.Ways.{IsLeaf, IsLoop}
use Rattle.relay_net.specs.Arrivals.{Through, IsArrival, IsSentOn, IsNext}
use Rattle.relay_net.specs.declared.arrival.Arrival.{Arrival}

contains_mapped : {X Y : Type 0} (f : X → Y) (xs : List X) (x : X) → Contains xs x → Contains (map f xs) (f x)
contains_mapped f [] x c = absurd (let less = c.1 in omega arith)
contains_mapped f (y ∷ xs) x (zero, less, is) = (0, omega arith, ap f is)
contains_mapped f (y ∷ xs) x (suc k, less, is) = let r = contains_mapped f xs x (k, omega arith, is) in (suc r.0, (let l = r.1 in omega arith), r.2)

mapped_contains : {X Y : Type 0} (f : X → Y) (xs : List X) (y : Y) → Contains (map f xs) y → (x : X) × Contains xs x × (f x ≡ y)
mapped_contains f [] y c = absurd (let less = c.1 in omega arith)
mapped_contains f (x ∷ xs) y (zero, less, is) = (x, (0, omega arith, refl), is)
mapped_contains f (x ∷ xs) y (suc k, less, is) = let r = mapped_contains f xs y (k, omega arith, is) in (r.0, (suc r.1.0, (let l = r.1.1 in omega arith), r.1.2), r.2)

-- the output sends to each of its servers, and to their addresses alone
module _ {A : Type 0} (net : Network A) (place buffer : ℕ) (output : Output A) (there : output_at net place buffer ≡ Some output) where
  pub sends_by : (server : Server A) → Contains (servers_of output) server → SendsTo net place buffer (address_of_server server)
  sends_by server among = rw there (contains_mapped address_of_server (servers_of output) server among)

  pub sent_from : (address : Address) → SendsTo net place buffer address → (server : Server A) × Contains (servers_of output) server × (address_of_server server ≡ address)
  sent_from address sends = mapped_contains address_of_server (servers_of output) address (rw there at sends)

module _ {A : Type 0} (net : Network A) (wanted : List ℕ) (place buffer : ℕ) (tag : List ℕ) (output : Output A) (there : output_at net place buffer ≡ Some output) (a : Arrival) where
  pub by_server : Through (λ (server : Server A) (x : Arrival). IsArrival net wanted (address_of_server server) tag x) (servers_of output) a → IsSentOn net wanted place buffer tag a
  by_server h = record { address = address_of_server h.0; sends = sends_by net place buffer output there h.0 h.1; arrives = h.2 }

  pub sent_by : IsSentOn net wanted place buffer tag a → Through (λ (server : Server A) (x : Arrival). IsArrival net wanted (address_of_server server) tag x) (servers_of output) a
  sent_by h =
      let s = sent_from net place buffer output there h.address h.sends in
      (s.0, s.1, subst (λ d. IsArrival net wanted d tag a) (sym s.2) h.arrives)

-- the number of a buffer among the leaves
pub number_in : (leaves : List BufferNo) (leaf : BufferNo) → Contains leaves leaf → Contains (numbers_of leaves) leaf.0
number_in [] leaf c = absurd (let less = c.1 in omega arith)
number_in (x ∷ leaves) leaf (zero, less, is) = (0, omega arith, ap (λ (n : BufferNo). n.0) is)
number_in (x ∷ leaves) leaf (suc k, less, is) = let r = number_in leaves leaf (k, omega arith, is) in (suc r.0, (let l = r.1 in omega arith), r.2)

pub leaf_of : (leaves : List BufferNo) (number : ℕ) → Contains (numbers_of leaves) number → (leaf : BufferNo) × Contains leaves leaf × (leaf.0 ≡ number)
leaf_of [] number c = absurd (let less = c.1 in omega arith)
leaf_of (x ∷ leaves) number (zero, less, is) = (x, (0, omega arith, refl), is)
leaf_of (x ∷ leaves) number (suc k, less, is) = let r = leaf_of leaves number (k, omega arith, is) in (r.0, (suc r.1.0, (let l = r.1.1 in omega arith), r.1.2), r.2)

module _ {A : Type 0} (net : Network A) (wanted : List ℕ) (here : Arrival) (leaves : List BufferNo) (ends : ¬ IsLoop (table_at net here.at.relay) (drop here.offset wanted) here.at.scope)
    (are : (buffer : ℕ) → Contains (numbers_of leaves) buffer ↔ IsLeaf (table_at net here.at.relay) (drop here.offset wanted) here.at.scope buffer) (a : Arrival) where
  pub by_leaf : Through (λ (leaf : BufferNo) (x : Arrival). IsSentOn net wanted here.at.relay leaf.0 (drop here.offset wanted) x) leaves a → IsNext net wanted here a
  by_leaf h = record { buffer = h.0.0; comes = record { ends = ends; leaf = (are h.0.0).0 (number_in leaves h.0 h.1) }; onward = h.2 }

  pub of_leaf : IsNext net wanted here a → Through (λ (leaf : BufferNo) (x : Arrival). IsSentOn net wanted here.at.relay leaf.0 (drop here.offset wanted) x) leaves a
  of_leaf n =
      let l = leaf_of leaves n.buffer ((are n.buffer).1 n.comes.leaf) in
      (l.0, l.1, subst (λ b. IsSentOn net wanted here.at.relay b (drop here.offset wanted) a) (sym l.2) n.onward)
