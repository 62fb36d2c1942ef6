-- What is kept along each branch.
use Rattle.std.specs.Prelude.{◌≡◌, ◌↔◌, ℕ, Bool, true, false, Option, None, slice_get, IsTrue, IsSomeAnd, MatchOption}
use Rattle.custody_store.specs.Buffers.{Event}
use Rattle.custody_store.specs.Branches.{EachKeeps}
use Rattle.custody_store.specs.Book.{Told}
use Rattle.relay_net.specs.Addresses.{Address}
use Rattle.relay_net.specs.Network.{Network, address_of_client}
use Rattle.custody_steps.specs.Held.{HeldAs}
use Rattle.custody_steps.specs.World.{World}

-- The event was acknowledged to a client, which sent it to its source: it comes to a buffer, and
-- each buffer that it comes to keeps it, or what it was forwarded to does.
abbrev pub IsKeptEvery : {A : Type 0} → Network A → World → Told → Type 0
IsKeptEvery net w told = IsSomeAnd (slice_get net.clients told.client)
    (λ client. EachKeeps net w.buffers w.messages (address_of_client net client) told.event.tag
    told.event.entry)

-- Whether this is so of the event of this number, counted from 0, that was acknowledged to a
-- client; none where no event has it.
abbrev pub IsKeptEveryAnswer : {A : Type 0} → Network A → World → ℕ → Option Bool → Type 0
IsKeptEveryAnswer net w number answer = MatchOption answer (slice_get w.acknowledged number ≡ None)
    (λ yes. IsSomeAnd (slice_get w.acknowledged number)
    (λ told. IsTrue yes ↔ IsKeptEvery net w told))

-- The event of a message that was sent to this address is held under a tag that it may bear; or,
-- where every branch is asked for, each branch of its way keeps it.
abbrev pub KeepsSo : {A : Type 0} → Bool → Network A → World → Address → Event → Type 0
KeepsSo false net w address event = HeldAs net w address event
KeepsSo true net w address event = EachKeeps net w.buffers w.messages address event.tag event.entry

-- Whether this is so of the event of this number, counted from 0, that was acknowledged to a
-- client; none where no event has it.
abbrev pub IsKeptSoAnswer : {A : Type 0} → Bool → Network A → World → ℕ → Option Bool → Type 0
IsKeptSoAnswer every net w number answer =
    MatchOption answer (slice_get w.acknowledged number ≡ None)
    (λ yes. IsSomeAnd (slice_get w.acknowledged number)
    (λ told. IsTrue yes ↔ IsSomeAnd (slice_get net.clients told.client)
    (λ client. KeepsSo every net w (address_of_client net client) told.event)))
