-- The buffers of a relay, as its loop uses them.
use Rattle.std.specs.Prelude.{ℕ, ◌≡◌, ◌≢◌, ◌-◌, ◌++◌, ◌∷◌, ◌<◌, Bool, true, false, List, [], map, length, take, All, Option, None, Some, Result, Ok, Err, if◌then◌else◌, slice_get, slice_index_or, slice_set, unwrap_or}
use Rattle.buffer_store.specs.declared.fault.BufferFault.{BufferFault}
use Rattle.buffer_store.specs.declared.fault.BufferFault.TheVariants.{Full, TooLarge, Gone, Fault, Failed, LastSerial, Damaged, Memory}
use Rattle.relay_conf.specs.declared.output.BufferNo.{BufferNo}
use Rattle.ack_receipt.specs.Deliveries.{Appended, Pended}
use Rattle.ack_receipt.specs.Redeeming.{AreReceiptsOf}
use Rattle.ack_receipt.specs.Terms.{Terms}
use Rattle.loop_core.specs.Schedules.{IsNoneDue, IsNoted, Plan, timing_of}

-- a buffer: its terms, when its staged chunks are queued, its appends that wait for receipts, its
-- receipts that nobody took yet, both in the order of the appends, and whether there was no memory
-- for its receipts, so that they come later
pub record LaneState (A : Type 0) : Type 0 where
  pub terms : Terms A
  pub plan : Plan
  pub waiting : List Pended
  pub receipts : List Appended
  pub later : Bool

-- the buffers by their numbers, each with those; for how many more there is room; the first fault
-- of a device, if there was one; the time in milliseconds; and whether something that was to be
-- queued wasn't
pub record LanesState (A : Type 0) : Type 0 where
  pub terms : List (Terms A)
  pub plans : List Plan
  pub waiting : List (List Pended)
  pub later : List Bool
  pub room : ℕ
  pub fault : Option BufferFault
  pub time : ℕ
  pub short : Bool

-- what is listed of this buffer; nothing of one that isn't there
abbrev pub listed_at : {X : Type 0} → List (List X) → BufferNo → List X
listed_at lists buffer = unwrap_or (slice_get lists buffer.0) []

-- whether receipts of this buffer come later; one that isn't there gives none
abbrev pub later_at : List Bool → BufferNo → Bool
later_at later buffer = unwrap_or (slice_get later buffer.0) false

-- no buffer's receipts come later
abbrev pub NoneLater : List Bool → Type 0
NoneLater later = (buffer : BufferNo) → later_at later buffer ≡ false

-- what no call changes of a buffer: which it is, and when its staged chunks are queued
pub record KeepsLane {A : Type 0} (old new : LaneState A) : Type 0 where
  pub terms : new.terms ≡ old.terms
  pub timing : timing_of new.plan ≡ timing_of old.plan

-- what no call changes of the buffers: which they are, when their staged chunks are queued, and the
-- first fault, once there was one
pub record KeepsLanes {A : Type 0} (old new : LanesState A) : Type 0 where
  pub terms : new.terms ≡ old.terms
  pub timings : map timing_of new.plans ≡ map timing_of old.plans
  pub fault : (fault : BufferFault) → old.fault ≡ Some fault → new.fault ≡ Some fault

-- whether the fault is the device's, or says that bytes which it was told are gone
abbrev pub is_lost : BufferFault → Bool
is_lost Full = false
is_lost TooLarge = false
is_lost Gone = false
is_lost Fault = true
is_lost Failed = true
is_lost LastSerial = false
is_lost Damaged = true
is_lost Memory = false

-- the first such fault, where this one came behind those before
abbrev pub first_fault : Option BufferFault → BufferFault → Option BufferFault
first_fault (Some first) next = Some first
first_fault None next = if is_lost next then Some next else None

-- the same, where a buffer answered this
abbrev pub fault_after : {T : Type 0} → Option BufferFault → Result T BufferFault
    → Option BufferFault
fault_after first (Ok answer) = first
fault_after first (Err next) = first_fault first next

-- The delivery was appended: its append waits behind the others, in the chunk of this serial.
pub record IsAppended (number serial : ℕ) (before behind : List Pended) : Type 0 where
  pub last : Pended
  pub own : last.delivery ≡ number
  pub chunk : last.serial ≡ serial
  pub is : behind ≡ before ++ last ∷ []

-- the last of these appends is of this delivery
pub record EndsWith (number : ℕ) (waiting : List Pended) : Type 0 where
  pub before : List Pended
  pub last : Pended
  pub own : last.delivery ≡ number
  pub is : waiting ≡ before ++ last ∷ []

-- appends without the last
abbrev pub undone : List Pended → List Pended
undone waiting = take (length waiting - 1) waiting

-- Each of the appends that waited has its receipt, in their order, and none waits.
pub record HaveReceipts {A : Type 0} (old new : LaneState A) : Type 0 where
  pub later : new.later ≡ false
  pub waiting : new.waiting ≡ []
  pub receipts : AreReceiptsOf old.terms.leaf old.waiting new.receipts

-- Their receipts come later: the same appends wait.
pub record WaitOn {A : Type 0} (old new : LaneState A) : Type 0 where
  pub later : new.later ≡ true
  pub waiting : new.waiting ≡ old.waiting
  pub receipts : new.receipts ≡ []

-- They get none: nothing waits.
pub record GetNone {A : Type 0} (new : LaneState A) : Type 0 where
  pub later : new.later ≡ false
  pub waiting : new.waiting ≡ []
  pub receipts : new.receipts ≡ []

-- The same at one of the buffers; the others' appends are as they were.
pub record IsAppendedAt (buffer : BufferNo) (number serial : ℕ)
    (before behind : List (List Pended)) : Type 0 where
  pub there : buffer.0 < length before
  pub now : List Pended
  pub one : IsAppended number serial (listed_at before buffer) now
  pub is : behind ≡ slice_set before buffer.0 now

-- What became of a buffer's appends that waited: they wait on where their receipts come later, and
-- else none waits.
abbrev pub AreRedeemed : List Pended → Bool → List Pended → Type 0
AreRedeemed before true waiting = waiting ≡ before
AreRedeemed before false waiting = waiting ≡ []

-- the same at the buffer of this number
abbrev pub AreRedeemedAt : {A : Type 0} → BufferNo → LanesState A → LanesState A → Type 0
AreRedeemedAt buffer old new = AreRedeemed (listed_at old.waiting buffer)
    (later_at new.later buffer) (listed_at new.waiting buffer)

-- Each of these buffers got an append of the delivery, in their order, behind those that it had; no
-- other buffer got one.
abbrev pub AreAppended : (number : ℕ) → List BufferNo → List (List Pended) → List (List Pended)
    → Type 0
AreAppended number [] before behind = behind ≡ before
AreAppended number (buffer ∷ more) before behind = (serial : ℕ) × (between : List (List Pended))
    × IsAppendedAt buffer number serial before between × AreAppended number more between behind

-- nothing changed of the appends of this buffer that wait for receipts
pub record IsUntouched {A : Type 0} (buffer : BufferNo) (old new : LanesState A) : Type 0 where
  pub waiting : listed_at new.waiting buffer ≡ listed_at old.waiting buffer
  pub later : later_at new.later buffer ≡ later_at old.later buffer

-- an append to one of the buffers waits for its receipt
abbrev pub AppendsWait : List (List Pended) → Type 0
AppendsWait waiting = (buffer : BufferNo) × (0 < length (listed_at waiting buffer))

-- the buffers' plans once an append at this time went to a chunk of this serial at this one: those
-- of the others are as they were
pub record IsNotedAt (place serial time : ℕ) (before behind : List Plan) : Type 0 where
  pub plan : Plan
  pub is : behind ≡ slice_set before place plan
  pub noted : (none : Plan) → place < length before
      → IsNoted serial time (slice_index_or before place none) plan

-- none of this buffer's staged chunks is to be queued now, if it is there
abbrev pub IsNoneDueAt : ℕ → ℕ → List Plan → Type 0
IsNoneDueAt place time plans = (none : Plan) → place < length plans
    → IsNoneDue time (slice_index_or plans place none)

-- the plans of all buffers but this one are as they were
pub record IsOneElse (place : ℕ) (old new : List Plan) : Type 0 where
  pub length : length new ≡ length old
  pub others : (other : ℕ) (none : Plan) → other ≢ place → slice_index_or new other none
      ≡ slice_index_or old other none

-- no staged chunk is to be queued now, unless there was no memory for it or a device failed
abbrev pub AreQueued : {A : Type 0} → LanesState A → Type 0
AreQueued lanes = lanes.short ≡ false → All (IsNoneDue lanes.time) lanes.plans
