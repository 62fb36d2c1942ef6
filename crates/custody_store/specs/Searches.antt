-- What is known while it is looked for which messages passed an entry on to where it is kept.
use Rattle.std.specs.Prelude.{◌≡◌, ℕ, Bool, true, false, List, Option, Some, None, slice_get, Any, Contains, IsSomeAnd, ◌⊎◌}
use Rattle.custody_store.specs.Buffers.{BufferState, Holds}
use Rattle.custody_store.specs.Book.{Message}
use Rattle.relay_net.specs.Addresses.{Address}
use Rattle.relay_net.specs.Network.{Network}
use Rattle.custody_store.specs.Branches.{Reaches, IsPassedOn, EachKeeps}

-- One of the messages with these numbers was sent from this buffer with the entry under this tag,
-- and acknowledged.
abbrev pub IsPassedAmong : List Message → List ℕ → List ℕ → ℕ → ℕ → List ℕ → Type 0
IsPassedAmong messages entry kept place buffer tag =
    Any (λ number. IsSomeAnd (slice_get messages number) (IsPassedOn entry place buffer tag)) kept

-- The buffer keeps the entry under this tag, as far as it is known that each of these messages
-- passed it on to where it is kept.
abbrev pub KeepsSoFar : (ℕ → ℕ → BufferState) → List Message → List ℕ → List ℕ → ℕ → ℕ → List ℕ
    → Type 0
KeepsSoFar buffers messages entry kept place buffer tag = Holds (buffers place buffer)
    (record { tag = tag; entry = entry }) ⊎ IsPassedAmong messages entry kept place buffer tag

-- The event of a message with this tag, sent to this address, comes to a buffer, and each buffer
-- that it comes to keeps it, as far as that is known.
pub record EachSoFar {A : Type 0} (net : Network A) (buffers : ℕ → ℕ → BufferState)
    (messages : List Message) (entry : List ℕ) (kept : List ℕ) (address : Address)
    (tag : List ℕ) : Type 0 where
  pub place : ℕ
  pub buffer : ℕ
  pub borne : List ℕ
  pub leaf : Reaches net address tag place buffer borne
  pub each : (p b : ℕ) (t : List ℕ) → Reaches net address tag p b t
      → KeepsSoFar buffers messages entry kept p b t

-- The message has the entry and was acknowledged, and passed it on to where it is kept, as far as
-- that is known.
pub record IsSettled {A : Type 0} (net : Network A) (buffers : ℕ → ℕ → BufferState)
    (messages : List Message) (entry : List ℕ) (kept : List ℕ) (message : Message) : Type 0 where
  pub answered : message.acknowledged ≡ true
  pub inside : Contains message.entries entry
  pub each : EachSoFar net buffers messages entry kept message.address message.tag

-- The message of this number is settled, and none of those that are known to be.
pub record IsNew {A : Type 0} (net : Network A) (buffers : ℕ → ℕ → BufferState)
    (messages : List Message) (entry : List ℕ) (kept : List ℕ) (number : ℕ) : Type 0 where
  pub message : Message
  pub there : slice_get messages number ≡ Some message
  pub fresh : ¬ Contains kept number
  pub settled : IsSettled net buffers messages entry kept message

-- If the message of this number is settled, it is among those that are known to be.
abbrev pub IsDone : {A : Type 0} → Network A → (ℕ → ℕ → BufferState) → List Message → List ℕ
    → List ℕ → ℕ → Type 0
IsDone net buffers messages entry kept number = (message : Message)
    → slice_get messages number ≡ Some message → IsSettled net buffers messages entry kept message
    → Contains kept number

-- the message of this number is such a new one, or it is done
abbrev pub IsNewOrDone : {A : Type 0} → Network A → (ℕ → ℕ → BufferState) → List Message → List ℕ
    → List ℕ → ℕ → Bool → Type 0
IsNewOrDone net buffers messages entry kept number true =
    IsNew net buffers messages entry kept number
IsNewOrDone net buffers messages entry kept number false =
    IsDone net buffers messages entry kept number

-- It is the number of a new one, or all are done.
abbrev pub IsNext : {A : Type 0} → Network A → (ℕ → ℕ → BufferState) → List Message → List ℕ
    → List ℕ → Option ℕ → Type 0
IsNext net buffers messages entry kept None = (number : ℕ)
    → IsDone net buffers messages entry kept number
IsNext net buffers messages entry kept (Some number) = IsNew net buffers messages entry kept number

-- Each of these messages comes to a buffer, and each buffer that it comes to keeps the entry.
abbrev pub AreSettled : {A : Type 0} → Network A → (ℕ → ℕ → BufferState) → List Message → List ℕ
    → List ℕ → Type 0
AreSettled net buffers messages entry kept = (number : ℕ) → Contains kept number
    → (message : Message) → slice_get messages number ≡ Some message
    → EachKeeps net buffers messages message.address message.tag entry
