-- The tags that an event may bear on its way through a network: from what its client sent, with the
-- prefix of each source that it enters in front, along relabels and forwards.
use Rattle.std.specs.Prelude.{◌≡◌, ◌≤◌, ℕ, List, length, map, Some, Contains}
use Rattle.std.specs.Option.{IsSomeAnd}
use Rattle.relay_net.specs.Addresses.{Address}
use Rattle.relay_net.specs.Network.{Network, entrance, tag_at, address_of_server, output_at}
use Rattle.relay_net.specs.Outputs.{servers_of}
use Rattle.relay_net.specs.Ways.{table_at}
use Rattle.relay_net.specs.declared.address.Entrance.{Entrance}
use Rattle.route_graph.specs.Ways.{IsLeaf, IsLoop}
use Rattle.tag_pattern.specs.Parts.{most_tag_bytes}

-- An event that bears this tag where it comes in has a way that ends, and the buffer is a leaf of
-- it.
pub record ComesTo {A : Type 0} (net : Network A) (at : Entrance) (tag : List ℕ)
    (buffer : ℕ) : Type 0 where
  pub ends : ¬ IsLoop (table_at net at.relay) tag at.scope
  pub leaf : IsLeaf (table_at net at.relay) tag at.scope buffer

-- the output of this buffer sends to a server with this address
abbrev pub SendsTo : {A : Type 0} → Network A → ℕ → ℕ → Address → Type 0
SendsTo net place buffer address = IsSomeAnd (output_at net place buffer)
    (λ output. Contains (map address_of_server (servers_of output)) address)

-- The events of a message with this tag, sent to this address, may go on in a message with that
-- tag, sent to that address: a buffer that they come to forwards them, under the tag that they bear
-- there.
pub record LeadsOn {A : Type 0} (net : Network A) (address : Address) (tag : List ℕ)
    (next : Address) (borne : List ℕ) : Type 0 where
  pub at : Entrance
  pub buffer : ℕ
  pub enters : entrance net address ≡ Some at
  pub comes : ComesTo net at (tag_at net address tag) buffer
  pub sends : SendsTo net at.relay buffer next
  pub borne_is : borne ≡ tag_at net address tag

-- So they may in so many steps, or in none.
pub data Follows {A : Type 0} (net : Network A) (address : Address) (tag : List ℕ) : Address
    → List ℕ → Type 0 where
  sent : Follows net address tag address tag
  onward : {last next : Address} {before borne : List ℕ} → Follows net address tag last before
      → LeadsOn net last before next borne → Follows net address tag next borne

-- The tag, of at most 1,024 bytes, is one that the events of a message with this tag, sent to this
-- address, may bear where they come in.
pub record IsRoutedTag {A : Type 0} (net : Network A) (address : Address)
    (tag routed : List ℕ) : Type 0 where
  pub last : Address
  pub before : List ℕ
  pub follows : Follows net address tag last before
  pub at : Entrance
  pub enters : entrance net last ≡ Some at
  pub routed_is : routed ≡ tag_at net last before
  pub short : length routed ≤ most_tag_bytes
