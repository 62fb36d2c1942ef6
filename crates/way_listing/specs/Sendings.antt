-- Messages on their way through a network: from a client's, along forwards.
use Rattle.std.specs.Prelude.{◌≡◌, ◌≢◌, ◌<◌, ◌≤◌, ◌++◌, Bool, true, false, ℕ, List, length, AllPairs, Contains}
use Rattle.relay_net.specs.Addresses.{Address}
use Rattle.relay_net.specs.Network.{Network, address_of_client}
use Rattle.relay_net.specs.declared.node.Client.{Client}
use Rattle.route_graph.specs.Ways.{HaveTag}
use Rattle.relay_net.specs.Routed.{LeadsOn}
use Rattle.tag_pattern.specs.Items.{Item}
use Rattle.tag_pattern.specs.Parts.{most_tag_bytes}

-- a message: where it is sent to, and its tag
pub record Sending : Type 0 where
  pub address : Address
  pub tag : List ℕ

-- the message with this tag to this address
abbrev pub sending : Address → List ℕ → Sending
sending address tag = record { address = address; tag = tag }

-- This holds of the one through one of some things.
abbrev pub Through : {X Y : Type 0} → (X → Y → Type 0) → List X → Y → Type 0
Through {X} P xs y = (x : X) × Contains xs x × P x y

-- To this address goes a message with this tag, of at most 1,024 bytes, which one of the patterns
-- has.
pub record IsSentUnder (patterns : List (List Item)) (address : Address) (tag : List ℕ)
    (sent : Sending) : Type 0 where
  pub short : length tag ≤ most_tag_bytes
  pub has : HaveTag patterns tag
  pub is : sending address tag ≡ sent

-- This client sends it, with one of these tags.
abbrev pub Sends : {A : Type 0} → Network A → List (List ℕ) → Client A → Sending → Type 0
Sends net tags client sent =
    Through (λ tag. IsSentUnder client.patterns.items (address_of_client net client) tag) tags sent

-- A client of the network sends it, with one of these tags.
abbrev pub IsOfClient : {A : Type 0} → Network A → List (List ℕ) → Sending → Type 0
IsOfClient net tags sent = Through (Sends net tags) net.clients sent

-- The events of the one message may go on in the other, under a tag of at most 1,024 bytes.
pub record GoesOn {A : Type 0} (net : Network A) (here next : Sending) : Type 0 where
  pub leads : LeadsOn net here.address here.tag next.address next.tag
  pub short : length next.tag ≤ most_tag_bytes

-- So they may in so many steps, from one of these.
pub data IsOnItsWay {A : Type 0} (net : Network A) (starts : List Sending) : Sending → Type 0 where
  begun : {one : Sending} → Contains starts one → IsOnItsWay net starts one
  goes_on : {here next : Sending} → IsOnItsWay net starts here → GoesOn net here next
      → IsOnItsWay net starts next

-- how many messages are looked at: a prefix that each round of a circle puts in front makes a new
-- tag each time
abbrev pub most_looked_at : ℕ
most_looked_at = 10000

-- These are on their way from the first ones, each once: those themselves, and all that are, or
-- else some of more than are looked at.
pub record AreOnTheirWay {A : Type 0} (net : Network A) (starts sent : List Sending)
    (are_all : Bool) : Type 0 where
  pub begin : (one : Sending) → Contains starts one → Contains sent one
  pub only : (one : Sending) → Contains sent one → IsOnItsWay net starts one
  pub all : are_all ≡ true → (one : Sending) → IsOnItsWay net starts one → Contains sent one
  pub once : AllPairs (λ one other. one ≢ other) sent
  pub many : are_all ≡ false → most_looked_at < length sent

-- The list grew by some of which this holds, and has all of which it holds. If each stood in it
-- once, each does.
pub record Adds {X : Type 0} (P : X → Type 0) (old new : List X) : Type 0 where
  pub more : List X
  pub new_is : new ≡ old ++ more
  pub only : (x : X) → Contains more x → P x
  pub all : (x : X) → P x → Contains new x
  pub once : AllPairs (λ one other. one ≢ other) old → AllPairs (λ one other. one ≢ other) new
