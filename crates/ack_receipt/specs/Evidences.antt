-- What shows that a chunk may leave its buffer, and when it serves.
use Rattle.std.specs.Prelude.{ℕ, ◌≡◌, ◌⊎◌, true, false, cond, length, Option, None, Some, IsSome, IsSomeAnd, IfSome, Result, Ok, Err, OnErr}
use Rattle.disk_files.specs.Faults.{Rises}
use Rattle.disk_files.specs.Moments.{History}
use Rattle.event_modes.specs.declared.chunk_id.ChunkId.{ChunkId}
use Rattle.sink_series.specs.Views.{StoredView}
use Rattle.buffer_state.specs.State.{State, IsAt, chunk_at}
use Rattle.buffer_state.specs.Steps.{oldest}
use Rattle.buffer_state.specs.declared.chunk.Stage.TheVariants as stage
use Rattle.buffer_store.specs.Buffers.{Held}
use Rattle.buffer_store.specs.Durability.{BeganWell}
use Rattle.buffer_store.specs.declared.fault.BufferFault.{BufferFault}
use Rattle.book_audit.specs.declared.line.Leaf.{Leaf}
use Rattle.ack_receipt.specs.declared.takes.Basis.{Basis}
use Rattle.ack_receipt.specs.declared.takes.Basis.TheVariants as basis
use Rattle.ack_receipt.specs.declared.takes.Takes.{Takes}
use Rattle.ack_receipt.specs.declared.book_fault.PurgeFault.{PurgeFault}
use Rattle.ack_receipt.specs.Claims.{Claimed, id_of}

-- what an evidence shows: a receiver acknowledged this chunk, or entries are in a sink for it, or
-- it was sent and no acknowledgement is required, or it is given up
pub data Shows : Type 0 where
  Acknowledged : (id : ChunkId) → Shows
  StoredAs : (id : ChunkId) (stored : StoredView) → Shows
  Written : (id : ChunkId) → Shows
  Expired : (id : ChunkId) → Shows

-- the chunk that it names
abbrev pub named : Shows → ChunkId
named (Acknowledged id) = id
named (StoredAs id stored) = id
named (Written id) = id
named (Expired id) = id

-- what an output gives: an acknowledgement where it forwards and requires them, what is in the sink
-- of its path, or, where it requires none, that it was sent
abbrev pub IsGiven : {A : Type 0} → Basis A → Shows → Type 0
IsGiven basis.Acknowledged (Acknowledged id) = Unit {0}
IsGiven (basis.Stored sink) (StoredAs id stored) = stored.path ≡ sink.items
IsGiven basis.Written (Written id) = Unit {0}
IsGiven basis shown = ⊥

-- The evidence is of a kind that lets chunks of this buffer go: what its output gives, or the end
-- of retries, where they end.
abbrev pub IsOfKind : {A : Type 0} → Takes A → Shows → Type 0
IsOfKind takes (Expired id) = takes.expires ≡ true
IsOfKind takes shown = IsGiven takes.basis shown

-- The evidence is for the claimed chunk of the buffer of this name: the claim is of this buffer,
-- and the evidence names this chunk, and is of a kind that lets chunks go.
abbrev pub IsFor : {A : Type 0} → Leaf → Takes A → Claimed → Shows → Type 0
IsFor leaf takes claim shown = (claim.leaf ≡ leaf) × (named shown ≡ id_of claim)
    × IsOfKind takes shown

-- what is in the sink are the tag and the entries of the live chunk of this serial
abbrev pub IsWhole : State → ℕ → StoredView → Type 0
IsWhole state serial stored = IsSomeAnd (chunk_at state serial)
    (λ chunk. (chunk.tag ≡ stored.tag) × (chunk.entries ≡ stored.entries))

-- what is in the sink has the tag of the live chunk of this serial, and as many entries
abbrev pub IsLike : State → ℕ → StoredView → Type 0
IsLike state serial stored = IsSomeAnd (chunk_at state serial)
    (λ chunk. (chunk.tag ≡ stored.tag) × (length stored.entries ≡ length chunk.entries))

-- what the evidence shows to be in a sink
abbrev pub stored_of : Shows → Option StoredView
stored_of (Acknowledged id) = None
stored_of (StoredAs id stored) = Some stored
stored_of (Written id) = None
stored_of (Expired id) = None

-- where the evidence shows what is in a sink, that is the live chunk of this serial
abbrev pub ShowsWhole : State → ℕ → Shows → Type 0
ShowsWhole state serial shown = IfSome (stored_of shown) (IsWhole state serial)

-- where the evidence shows what is in a sink, that is like the live chunk of this serial
abbrev pub ShowsLike : State → ℕ → Shows → Type 0
ShowsLike state serial shown = IfSome (stored_of shown) (IsLike state serial)

-- The evidence lets the claimed chunk go: it is for it, and what it shows to be in a sink is the
-- chunk's tag and entries.
abbrev pub Serves : {A : Type 0} → Leaf → Takes A → State → Claimed → Shows → Type 0
Serves leaf takes state claim shown = IsFor leaf takes claim shown
    × ShowsWhole state claim.serial shown

-- what the evidence shows can be compared with what was appended: where it shows entries in a sink,
-- the folder was honest when the buffer was opened, and had no gap of removed generations
abbrev pub CanCompare : {D : Type 0} → (D → Type 0) → (D → History) → Held D → Shows → Type 0
CanCompare is_honest history buffer shown = IsSome (stored_of shown)
    → BeganWell is_honest history buffer

-- the chunk's entries couldn't be read
abbrev pub IsUnread : {T : Type 0} → Result T BufferFault → Type 0
IsUnread result = (result ≡ Err BufferFault.Failed)
    ⊎ ((result ≡ Err BufferFault.Memory)
    ⊎ ((result ≡ Err BufferFault.Fault) ⊎ (result ≡ Err BufferFault.Damaged)))

-- the chunk to drop to make room: the queued one of least serial, where chunks may be dropped
abbrev pub to_drop : {A : Type 0} → Takes A → State → Option ℕ
to_drop takes state = cond takes.drops (oldest state) None

-- the answer, without what a refusal hands back
abbrev pub answer_of : {T C E : Type 0} → Result T (PurgeFault × C × E) → Result T PurgeFault
answer_of (Ok done) = Ok done
answer_of (Err refused) = Err refused.0

-- the call was refused for this that the buffer answered
abbrev pub IsRefused : {T : Type 0} → BufferFault → Result T PurgeFault → Type 0
IsRefused fault answer = answer ≡ Err (PurgeFault.Buffer fault)

-- Why a purge is refused. `Stranger` where the evidence doesn't serve; in its place, where it shows
-- what is in a sink, why the chunk's entries couldn't be read. Else the first of the buffer's own
-- reasons: the device failed it before, the chunk isn't claimed, no memory, or the device fails.
pub record RefusesPurge {A D T : Type 0} (is_honest : D → Type 0) (history : D → History)
    (fault_count : D → ℕ) (leaf : Leaf) (takes : Takes A) (claim : Claimed) (shown : Shows)
    (old new : Held D) (answer : Result T PurgeFault) : Type 0 where
  pub astray : (IsFor leaf takes claim shown → ⊥) → answer ≡ Err PurgeFault.Stranger
  pub stranger : CanCompare is_honest history old shown
      → answer ≡ Err PurgeFault.Stranger → Serves leaf takes old.chunks claim shown → ⊥
  pub never : CanCompare is_honest history old shown
      → (Serves leaf takes old.chunks claim shown → ⊥)
      → OnErr answer ((answer ≡ Err PurgeFault.Stranger) ⊎ (IsSome (stored_of shown)
      × (IsRefused BufferFault.Failed answer
      ⊎ (IsRefused BufferFault.Memory answer ⊎ IsRefused BufferFault.Fault answer))))
  pub failed : IsRefused BufferFault.Failed answer → old.failed ≡ true
  pub stopped : old.failed ≡ true
      → (answer ≡ Err PurgeFault.Stranger) ⊎ IsRefused BufferFault.Failed answer
  pub gone : IsRefused BufferFault.Gone answer
      → (old.failed ≡ false) × (IsAt stage.Claimed old.chunks claim.serial → ⊥)
  pub undamaged : CanCompare is_honest history old shown → IsRefused BufferFault.Damaged answer → ⊥
  pub only : CanCompare is_honest history old shown → Serves leaf takes old.chunks claim shown
      → old.failed ≡ false → IsAt stage.Claimed old.chunks claim.serial
      → OnErr answer (IsRefused BufferFault.Memory answer ⊎ IsRefused BufferFault.Fault answer)
  pub cause : IsRefused BufferFault.Fault answer → Rises (fault_count old.dir) (fault_count new.dir)

-- How a purge leaves its buffer: with its limits, and failed only where it may have come to write.
-- Entries that couldn't be read leave it as it was.
pub record SparesBuffer {A D T : Type 0} (is_honest : D → Type 0) (history : D → History)
    (leaf : Leaf) (takes : Takes A) (claim : Claimed) (shown : Shows) (old new : Held D)
    (answer : Result T PurgeFault) : Type 0 where
  pub limits : new.limits ≡ old.limits
  pub flags : (IsRefused BufferFault.Fault answer → ⊥) → new.failed ≡ old.failed
  pub spared : CanCompare is_honest history old shown
      → (Serves leaf takes old.chunks claim shown → ⊥) → new.failed ≡ old.failed
