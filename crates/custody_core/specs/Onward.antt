-- How what was acknowledged is held: by sinks, and by chunks that rank above what it was sent from.
use Rattle.std.specs.Prelude.{◌≡◌, ◌+◌, ◌<◌, ◌≤◌, ℕ, true, List, Some, Contains, IsSomeAnd, slice_get, ◌⊎◌}
use Rattle.custody_store.specs.declared.chunk.Stage.TheVariants.{Staged}
use Rattle.custody_store.specs.Buffers.{Event, Chunk, BufferState, IsInChunk}
use Rattle.custody_store.specs.Book.{Message, Told}
use Rattle.custody_store.specs.declared.sender.Sender.{Sender}
use Rattle.custody_store.specs.declared.sender.Sender.TheVariants as sender
use Rattle.relay_net.specs.Addresses.{Address}
use Rattle.relay_net.specs.Network.{Network, output_at, place_of, address_of_client}
use Rattle.relay_net.specs.Outputs.{Keeps}
use Rattle.relay_net.specs.Routed.{IsRoutedTag}
use Rattle.step_lines.specs.declared.step.Step.{Step}
use Rattle.step_lines.specs.declared.step.Step.TheVariants as step
use Rattle.custody_steps.specs.World.{World}

-- the output of this buffer keeps
abbrev pub KeepsAt : {A : Type 0} → Network A → ℕ → ℕ → Type 0
KeepsAt net place buffer = IsSomeAnd (output_at net place buffer) Keeps

-- The step at this place of the list, counted from 0, queues the chunk.
pub record IsQueuedAt {A : Type 0} (net : Network A) (steps : List (Step A))
    (place buffer serial at : ℕ) : Type 0 where
  pub relay : ℕ
  pub place_is : place_of net relay ≡ Some place
  pub there : slice_get steps at
      ≡ Some (step.Enqueue (record { relay = relay; buffer = buffer; serial = serial }))

-- A chunk's rank is the place of the first step that queues it.
pub record IsRank {A : Type 0} (net : Network A) (steps : List (Step A))
    (place buffer serial rank : ℕ) : Type 0 where
  pub queued : IsQueuedAt net steps place buffer serial rank
  pub first : (at : ℕ) → at < rank → ¬ IsQueuedAt net steps place buffer serial at

-- A live chunk of the buffer has the event, and has this rank or a higher one; or it is staged, and
-- so ranks above all.
pub record IsInChunkFrom {A : Type 0} (net : Network A) (steps : List (Step A))
    (place buffer least : ℕ) (state : BufferState) (event : Event) : Type 0 where
  pub serial : ℕ
  pub chunk : Chunk
  pub there : state.chunks serial ≡ Some chunk
  pub inside : IsInChunk chunk event
  pub high : (chunk.stage ≡ Staged)
      ⊎ ((rank : ℕ) × IsRank net steps place buffer serial rank × (least ≤ rank))

-- The entry of a message with this tag, sent to this address, is held from this rank on, under a
-- tag that it may bear: in a sink, or in such a chunk of a buffer whose output keeps.
pub record IsHeldFrom {A : Type 0} (net : Network A) (steps : List (Step A)) (w : World) (least : ℕ)
    (address : Address) (tag entry : List ℕ) : Type 0 where
  pub place : ℕ
  pub buffer : ℕ
  pub borne : List ℕ
  pub routed : IsRoutedTag net address tag borne
  pub held : Contains (w.buffers place buffer).sink (record { tag = borne; entry = entry })
      ⊎ (KeepsAt net place buffer
      × IsInChunkFrom net steps place buffer least (w.buffers place buffer)
      (record { tag = borne; entry = entry }))

-- The entries of a sender's messages have to be held from this rank on: those of a chunk above its
-- own rank, those of a client from any.
abbrev pub IsLeastAfter : {A : Type 0} → Network A → List (Step A) → Sender → ℕ → Type 0
IsLeastAfter net steps (sender.Client client) least = least ≡ 0
IsLeastAfter net steps (sender.Chunk place buffer serial) least = (rank : ℕ)
    × IsRank net steps place buffer serial rank × (least ≡ rank + 1)

-- the sender is a client, or a chunk of a buffer whose output keeps
abbrev pub Hands : {A : Type 0} → Network A → Sender → Type 0
Hands net (sender.Client client) = Unit {0}
Hands net (sender.Chunk place buffer serial) = KeepsAt net place buffer

-- After these steps each entry of an acknowledged message, which a client or a chunk of a buffer
-- that keeps sent, is held above its sender's rank; and so each event is that was acknowledged to a
-- client. So no chunk is let go for the sake of one that goes before it, in a cycle of relays
-- neither.
pub record AreHeldOnward {A : Type 0} (net : Network A) (steps : List (Step A))
    (w : World) : Type 0 where
  pub messages : (number : ℕ) (message : Message) → slice_get w.messages number ≡ Some message
      → message.acknowledged ≡ true → Hands net message.sender
      → (least : ℕ) × IsLeastAfter net steps message.sender least
      × ((entry : List ℕ) → Contains message.entries entry
      → IsHeldFrom net steps w least message.address message.tag entry)
  pub clients : (told : Told) → Contains w.acknowledged told
      → IsSomeAnd (slice_get net.clients told.client)
      (λ client. IsHeldFrom net steps w 0 (address_of_client net client) told.event.tag
      told.event.entry)
