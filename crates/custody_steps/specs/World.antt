-- The state of a whole network: what its buffers and sinks hold, and all that was ever sent.
use Rattle.std.specs.Prelude.{ℕ, ◌==◌, ◌&&◌, cond, List, [], None}
use Rattle.custody_store.specs.Buffers.{BufferState}
use Rattle.custody_store.specs.Book.{Message, Delivery, Told}

-- the whole network at one time
pub record World : Type 0 where
  pub buffers : ℕ → ℕ → BufferState  -- by the place of the relay, and the buffer in it
  pub messages : List Message  -- all that were ever sent, in that order
  pub deliveries : List Delivery  -- all that were ever opened, in that order
  pub acknowledged : List Told  -- the events that were acknowledged to clients, in that order

-- before the first step
abbrev pub initial_world : World
initial_world = record {
  buffers = λ _ _. record { chunks = λ _. None; next = 0; sink = [] };
  messages = [];
  deliveries = [];
  acknowledged = [];
}

-- the world with this buffer changed
abbrev pub with_buffer : World → ℕ → ℕ → (BufferState → BufferState) → World
with_buffer w place buffer change =
    record w {
      buffers = λ p b. cond ((p == place) && (b == buffer)) (change (w.buffers p b))
          (w.buffers p b);
    }
