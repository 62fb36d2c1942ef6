-- What is kept of an event along each branch of its way: by the buffer that the branch comes to, or
-- further on.
use Rattle.std.specs.Prelude.{◌≡◌, ◌≤◌, ℕ, true, List, length, Some, Contains}
use Rattle.custody_store.specs.Buffers.{BufferState, Holds}
use Rattle.custody_store.specs.Contents.{buffer_of}
use Rattle.custody_store.specs.Places.{contents_at}
use Rattle.custody_store.specs.declared.places.Places.{Places}
use Rattle.custody_store.specs.Book.{Message}
use Rattle.custody_store.specs.declared.sender.Sender.TheVariants as sender
use Rattle.relay_net.specs.Addresses.{Address}
use Rattle.relay_net.specs.Network.{Network, entrance, tag_at}
use Rattle.relay_net.specs.declared.address.Entrance.{Entrance}
use Rattle.relay_net.specs.Routed.{ComesTo}
use Rattle.tag_pattern.specs.Parts.{most_tag_bytes}

-- the buffers, by the place of the relay and the buffer in it
abbrev pub buffers_of : {A : Type 0} → Places A → ℕ → ℕ → BufferState
buffers_of places = λ place buffer. buffer_of (contents_at places place buffer)

-- The events of a message with this tag, sent to this address, come to the buffer of the relay at
-- this place under that tag: the buffer is a leaf of their way, which ends, and the tag is one.
pub record Reaches {A : Type 0} (net : Network A) (address : Address) (tag : List ℕ)
    (place buffer : ℕ) (borne : List ℕ) : Type 0 where
  pub at : Entrance
  pub enters : entrance net address ≡ Some at
  pub place_is : place ≡ at.relay
  pub borne_is : borne ≡ tag_at net address tag
  pub short : length borne ≤ most_tag_bytes
  pub comes : ComesTo net at borne buffer

-- The message was sent from a chunk of this buffer with the entry under this tag, and acknowledged.
pub record IsPassedOn (entry : List ℕ) (place buffer : ℕ) (tag : List ℕ)
    (message : Message) : Type 0 where
  pub from : (serial : ℕ) × (message.sender ≡ sender.Chunk place buffer serial)
  pub tag_is : message.tag ≡ tag
  pub inside : Contains message.entries entry
  pub answered : message.acknowledged ≡ true

-- The buffer keeps the entry under this tag: a live chunk of it has that, or its sink; or a message
-- with that was acknowledged to it whose events come to a buffer, and each buffer that they come to
-- keeps the entry. It is the least such relation.
pub data KeepsAlong {A : Type 0} (net : Network A) (buffers : ℕ → ℕ → BufferState)
    (messages : List Message) (entry : List ℕ) : ℕ → ℕ → List ℕ → Type 0 where
  has : {place buffer : ℕ} {tag : List ℕ}
      → Holds (buffers place buffer) (record { tag = tag; entry = entry })
      → KeepsAlong net buffers messages entry place buffer tag
  passed : {place buffer : ℕ} {tag : List ℕ} (message : Message) → Contains messages message
      → IsPassedOn entry place buffer tag message
      → (p b : ℕ) (t : List ℕ) → Reaches net message.address message.tag p b t
      → ((p b : ℕ) (t : List ℕ) → Reaches net message.address message.tag p b t
      → KeepsAlong net buffers messages entry p b t)
      → KeepsAlong net buffers messages entry place buffer tag

-- The event of a message with this tag, sent to this address, comes to a buffer, and each buffer
-- that it comes to keeps it.
pub record EachKeeps {A : Type 0} (net : Network A) (buffers : ℕ → ℕ → BufferState)
    (messages : List Message) (address : Address) (tag entry : List ℕ) : Type 0 where
  pub place : ℕ
  pub buffer : ℕ
  pub borne : List ℕ
  pub leaf : Reaches net address tag place buffer borne
  pub each : (p b : ℕ) (t : List ℕ) → Reaches net address tag p b t
      → KeepsAlong net buffers messages entry p b t
