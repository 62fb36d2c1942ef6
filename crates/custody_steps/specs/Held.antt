-- What a network holds.
use Rattle.std.specs.Prelude.{◌≡◌, ◌↔◌, ℕ, Bool, List, Option, None, slice_get, IsTrue, IsSomeAnd, MatchOption}
use Rattle.custody_store.specs.Buffers.{Event, Holds}
use Rattle.custody_store.specs.Book.{Told}
use Rattle.relay_net.specs.Addresses.{Address}
use Rattle.relay_net.specs.Network.{Network, address_of_client}
use Rattle.relay_net.specs.Routed.{IsRoutedTag}
use Rattle.custody_steps.specs.World.{World}

-- The event is in a live chunk of some buffer, or in a sink.
abbrev pub Held : World → Event → Type 0
Held w event = (place : ℕ) × (buffer : ℕ) × Holds (w.buffers place buffer) event

-- The event is held under a tag that it may bear, if a message with it was sent to this address.
abbrev pub HeldAs : {A : Type 0} → Network A → World → Address → Event → Type 0
HeldAs net w address event = (tag : List ℕ) × IsRoutedTag net address event.tag tag
    × Held w (record { tag = tag; entry = event.entry })

-- So it is of an event that was acknowledged to a client, which sent it to its source.
abbrev pub IsKept : {A : Type 0} → Network A → World → Told → Type 0
IsKept net w told = IsSomeAnd (slice_get net.clients told.client)
    (λ client. HeldAs net w (address_of_client net client) told.event)

-- Whether the event of this number, counted from 0, that was acknowledged to a client is kept; none
-- where no event has it.
abbrev pub IsKeptAnswer : {A : Type 0} → Network A → World → ℕ → Option Bool → Type 0
IsKeptAnswer net w number answer = MatchOption answer (slice_get w.acknowledged number ≡ None)
    (λ yes. IsSomeAnd (slice_get w.acknowledged number) (λ told. IsTrue yes ↔ IsKept net w told))
