-- A chunk that a name was looked up for.
use Rattle.std.specs.Prelude.{◌≡◌, ℕ, ◌++◌, ◌∷◌, true, false, List, [], Option, Some}
use Rattle.std.specs.Option.{option_and_then, option_map_or}
use Rattle.custody_store.specs.Buffers.{Chunk, with_chunk, events_of}
use Rattle.custody_store.specs.Contents.{look_of}
use Rattle.custody_store.specs.declared.sender.Sender.TheVariants as sender
use Rattle.relay_net.specs.Addresses.{Address}
use Rattle.relay_net.specs.Network.{Network, place_of}
use Rattle.step_lines.specs.declared.step.ChunkName.{ChunkName}
use Rattle.custody_steps.specs.World.{World, with_buffer}
use Rattle.custody_steps.specs.declared.found.Found.{Found}

-- The name is that of this live chunk.
pub record IsFound {A : Type 0} (net : Network A) (w : World) (name : ChunkName)
    (found : Found) : Type 0 where
  pub place_is : place_of net name.relay ≡ Some found.place
  pub buffer_is : name.buffer ≡ found.buffer
  pub serial_is : name.serial ≡ found.serial
  pub chunk : Chunk
  pub chunk_is : (w.buffers found.place found.buffer).chunks found.serial ≡ Some chunk
  pub look_is : found.look ≡ look_of chunk

-- the live chunk that was found
abbrev pub chunk_of : World → Found → Option Chunk
chunk_of w found = (w.buffers found.place found.buffer).chunks found.serial

-- the world with the chunk changed that was found
abbrev pub with_found : World → Found → (Chunk → Option Chunk) → World
with_found w found change =
    with_buffer w found.place found.buffer
    (λ state. with_chunk found.serial (option_and_then change (state.chunks found.serial)) state)

-- the world after entries of the chunk that was found were stored in the sink of its output
abbrev pub stored_found : World → Found → (List (List ℕ) → List (List ℕ)) → World
stored_found w found those = with_buffer w found.place found.buffer (λ state. record state {
  sink = state.sink ++ option_map_or (λ chunk. events_of chunk.tag (those chunk.entries))
      (state.chunks found.serial) [];
})

-- the world after a copy of the chunk that was found, which is this one, was sent to an address
abbrev pub sent_on : World → Found → Address → Chunk → World
sent_on w found address chunk =
    record (with_found w found (λ c. Some (record c { forwarded = true }))) {
      messages = w.messages
          ++ record {
            sender = sender.Chunk found.place found.buffer found.serial;
            address = address;
            tag = chunk.tag;
            entries = chunk.entries;
            acknowledged = false;
          } ∷ [];
    }
