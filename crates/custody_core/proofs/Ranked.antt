-- What every run keeps of a network whose messages all lead to outputs that keep.
use Rattle.std.proofs.Common.{◌≡◌, ◌≢◌, ℕ, ◌+◌, ◌<◌, ◌≤◌, true, List, length, Some, None, slice_get, Contains, IsSomeAnd}
use Rattle.custody_store.specs.declared.chunk.Stage.TheVariants.{Staged}
use Rattle.custody_store.specs.Buffers.{Chunk, BufferState}
use Rattle.custody_store.specs.Book.{Message, Delivery, Told}
use Rattle.custody_store.specs.declared.sender.Sender.{Sender}
use Rattle.custody_store.specs.declared.sender.Sender.TheVariants as sender
use Rattle.relay_conf.specs.declared.output.Output.{Output}
use Rattle.relay_conf.specs.declared.output.Server.{Server}
use Rattle.relay_net.specs.Addresses.{Address}
use Rattle.relay_net.specs.Network.{Network, entrance, tag_at, output_at, address_of_client, address_of_server}
use Rattle.relay_net.specs.Outputs.{servers_of}
use Rattle.relay_net.specs.Ways.{table_at}
use Rattle.relay_net.specs.declared.address.Entrance.{Entrance}
use Rattle.relay_net.specs.declared.node.Client.{Client}
use Rattle.route_graph.specs.Ways.{HaveTag, IsLeaf, IsLoop}
use Rattle.relay_net.specs.Routed.{SendsTo}
use Rattle.custody_steps.specs.World.{World}
use Rattle.custody_core.proofs.Borne.{Origin, Bears}
use Rattle.custody_core.proofs.Safe.{Buffers, Ranking, KeepsAt, IsSafe}
use Rattle.tag_pattern.specs.Parts.{most_tag_bytes}

-- which tags are labelled where
abbrev pub Labelling : Type 1
Labelling = Entrance → List ℕ → Type 0

-- The address is that of a source, in whose scope the tag, as it is prefixed there, is labelled.
abbrev pub IsTaken : {A : Type 0} → Network A → Labelling → Address → List ℕ → Type 0
IsTaken net labelled address tag = IsSomeAnd (entrance net address) (λ at. labelled at (tag_at net address tag))

-- What the buffer has under the tag is sent to such addresses alone.
abbrev pub IsSentOn : {A : Type 0} → Network A → Labelling → ℕ → ℕ → List ℕ → Type 0
IsSentOn net labelled place buffer tag = (o : Output _) → output_at net place buffer ≡ Some o → (number : ℕ) (server : Server _) → slice_get (servers_of o) number ≡ Some server → IsTaken net labelled (address_of_server server) tag

-- Where labelled tags lead: clients send such tags, each has a way that ends and a leaf that keeps,
-- and each leaf sends it to such scopes alone.
pub record LeadOn {A : Type 0} (net : Network A) (labelled : Labelling) : Type 0 where
  pub clients : (number : ℕ) (client : Client A) → slice_get net.clients number ≡ Some client → (tag : List ℕ) → HaveTag client.patterns.items tag → IsTaken net labelled (address_of_client net client) tag
  pub ends : (at : Entrance) (tag : List ℕ) → labelled at tag → ¬ IsLoop (table_at net at.relay) tag at.scope
  pub keeps : (at : Entrance) (tag : List ℕ) → labelled at tag → (buffer : ℕ) × IsLeaf (table_at net at.relay) tag at.scope buffer × KeepsAt net at.relay buffer
  pub sends : (at : Entrance) (tag : List ℕ) → labelled at tag → (buffer : ℕ) → IsLeaf (table_at net at.relay) tag at.scope buffer → IsSentOn net labelled at.relay buffer tag

-- the rank above which the events of a sender's messages must be safe: a client's is below all
-- others
abbrev pub rank_of : Ranking → Sender → ℕ
rank_of ranks (sender.Client client) = 0
rank_of ranks (sender.Chunk place buffer serial) = ranks place buffer serial + 1

-- The sender sends to this address: it is the client's, or a server's of the chunk's output.
abbrev pub IsSentFrom : {A : Type 0} → Network A → Sender → Address → Type 0
IsSentFrom {A} net (sender.Client number) address = (client : Client A) × (slice_get net.clients number ≡ Some client) × (address ≡ address_of_client net client)
IsSentFrom net (sender.Chunk place buffer serial) address = SendsTo net place buffer address

-- The sender is a client, or a chunk of a buffer that keeps.
abbrev pub Counts : {A : Type 0} → Network A → Sender → Type 0
Counts net (sender.Client client) = Unit {0}
Counts net (sender.Chunk place buffer serial) = KeepsAt net place buffer

-- The id was given to a chunk with this tag and these entries, and to no other.
pub record IsIdOf (ranks : ℕ → ℕ) (clock : ℕ) (state : BufferState) (serial : ℕ) (tag : List ℕ) (entries : List (List ℕ)) : Type 0 where
  pub ranked : ranks serial < clock
  pub given : serial < state.next
  pub same : (chunk : Chunk) → state.chunks serial ≡ Some chunk → (chunk.stage ≢ Staged) × (chunk.tag ≡ tag) × (chunk.entries ≡ entries)

-- A chunk of this serial was queued, and its id is of no other.
pub record WasQueued (ranks : ℕ → ℕ) (clock : ℕ) (state : BufferState) (serial : ℕ) : Type 0 where
  pub tag : List ℕ
  pub entries : List (List ℕ)
  pub id : IsIdOf ranks clock state serial tag entries

module _ {A : Type 0} (net : Network A) (ranks : Ranking) (clock : ℕ) (buffers : Buffers) where
  -- each of these events, which were sent to the address under the tag, is safe above the rank
  abbrev pub AreSafe : ℕ → Address → List ℕ → List (List ℕ) → Type 0
  AreSafe rank address tag entries = (entry : List ℕ) → Contains entries entry → IsSafe net ranks buffers rank (record { address = address; tag = tag; entry = entry })

  -- each event that may bear the tag in this buffer, and has one of these entries, is safe above
  -- the rank
  abbrev pub AreSafeOnward : ℕ → ℕ → ℕ → List ℕ → List (List ℕ) → Type 0
  AreSafeOnward rank place buffer tag entries = (origin : Origin) → Bears net origin place buffer tag → Contains entries origin.entry → IsSafe net ranks buffers rank origin

  -- if the sender counts, each of these events is safe above its rank
  abbrev pub ArePassedOn : Sender → Address → List ℕ → List (List ℕ) → Type 0
  ArePassedOn sender address tag entries = Counts net sender → AreSafe (rank_of ranks sender) address tag entries

  -- what was acknowledged to a client is safe
  abbrev pub IsToldSafe : Told → Type 0
  IsToldSafe told = IsSomeAnd (slice_get net.clients told.client) (λ client. IsSafe net ranks buffers 0 (record { address = address_of_client net client; tag = told.event.tag; entry = told.event.entry }))

  -- if the sender is a chunk of a buffer that keeps, its id is of these entries alone
  abbrev pub HasId : Sender → List ℕ → List (List ℕ) → Type 0
  HasId (sender.Client client) tag entries = Unit {0}
  HasId (sender.Chunk place buffer serial) tag entries = KeepsAt net place buffer → IsIdOf (ranks place buffer) clock (buffers place buffer) serial tag entries

  -- A message leads to a source, to which its sender sends; its sender has its id; if it was
  -- acknowledged, its events are safe.
  pub record IsKnown (labelled : Labelling) (message : Message) : Type 0 where
    pub taken : IsTaken net labelled message.address message.tag
    pub from : IsSentFrom net message.sender message.address
    pub id : HasId message.sender message.tag message.entries
    pub answered : message.acknowledged ≡ true → ArePassedOn message.sender message.address message.tag message.entries

  -- A live chunk leads to sources. In a buffer that keeps it was queued or is staged; with evidence
  -- its events are safe elsewhere.
  pub record IsKnownChunk (labelled : Labelling) (place buffer serial : ℕ) (chunk : Chunk) : Type 0 where
    pub sent_on : IsSentOn net labelled place buffer chunk.tag
    pub ranked : KeepsAt net place buffer → chunk.stage ≢ Staged → ranks place buffer serial < clock
    pub evident : KeepsAt net place buffer → chunk.evidence ≡ true → (chunk.stage ≢ Staged) × AreSafeOnward (ranks place buffer serial + 1) place buffer chunk.tag chunk.entries

  -- A delivery is of a message that came in where its tag, as it is prefixed there, is labelled;
  -- where it was appended to a buffer that keeps, the events of that are safe.
  pub record IsKnownDelivery (labelled : Labelling) (messages : List Message) (delivery : Delivery) : Type 0 where
    pub message : Message
    pub there : slice_get messages delivery.message ≡ Some message
    pub enters : entrance net message.address ≡ Some delivery.entrance
    pub tag_is : delivery.tag ≡ tag_at net message.address message.tag
    pub short : length delivery.tag ≤ most_tag_bytes
    pub taken : labelled delivery.entrance delivery.tag
    pub appended : (buffer : ℕ) → Contains delivery.appended buffer → KeepsAt net delivery.entrance.relay buffer → ArePassedOn message.sender message.address message.tag message.entries

-- What every run keeps.
pub record IsRanked {A : Type 0} (net : Network A) (labelled : Labelling) (ranks : Ranking) (clock : ℕ) (w : World) : Type 0 where
  pub below : (place buffer serial : ℕ) → (w.buffers place buffer).next ≤ serial → (w.buffers place buffer).chunks serial ≡ None
  pub chunks : (place buffer serial : ℕ) (chunk : Chunk) → (w.buffers place buffer).chunks serial ≡ Some chunk → IsKnownChunk net ranks clock w.buffers labelled place buffer serial chunk
  pub queued : (place buffer serial : ℕ) → KeepsAt net place buffer → ranks place buffer serial < clock → WasQueued (ranks place buffer) clock (w.buffers place buffer) serial
  pub messages : (number : ℕ) (message : Message) → slice_get w.messages number ≡ Some message → IsKnown net ranks clock w.buffers labelled message
  pub deliveries : (number : ℕ) (delivery : Delivery) → slice_get w.deliveries number ≡ Some delivery → IsKnownDelivery net ranks clock w.buffers labelled w.messages delivery
  pub acknowledged : (told : Told) → Contains w.acknowledged told → IsToldSafe net ranks clock w.buffers told
