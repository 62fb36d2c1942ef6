-- When the staged chunks of a buffer are queued (Fluentd, "Config: Buffer Section", flush_mode,
-- flush_interval).
use Rattle.std.specs.Prelude.{ℕ, ◌≡◌, ◌-◌, Bool, List, [], ◌∷◌, ◌++◌, length, map, All, slice_get, Option, None, Some, if◌then◌else◌, nat_lt, not, true}
use Rattle.std.specs.List.{flat_map}
use Rattle.buffer_state.specs.Shown.{Facts, numbered_facts}
use Rattle.buffer_state.specs.State.{State, is_staged}
use Rattle.relay_conf.specs.declared.buffer.FlushMode.{FlushMode}
use Rattle.relay_conf.specs.declared.buffer.FlushMode.TheVariants.{Interval, Immediate}
use Rattle.loop_core.specs.declared.schedule.Staged.{Staged}

-- the staged chunks by rising serial, when they are queued, and for how many more there is room;
-- times are in milliseconds
pub record Plan : Type 0 where
  pub mode : FlushMode
  pub interval : ℕ
  pub chunks : List Staged
  pub room : ℕ

-- how its buffer's staged chunks are queued
pub record Timing : Type 0 where
  pub mode : FlushMode
  pub interval : ℕ

-- which stays, whatever is staged
abbrev pub timing_of : Plan → Timing
timing_of plan = record { mode = plan.mode; interval = plan.interval }

-- what is staged of a chunk that a buffer shows when it is opened: the chunk where it still grows,
-- since now
abbrev pub staged_since : ℕ → Facts → List Staged
staged_since now facts = if is_staged facts.stage
    then record { serial = facts.serial; since = now } ∷ [] else []

-- the staged chunks of a buffer that is opened now: each that still grows, of whatever tag, by
-- rising serial
abbrev pub staged_at : ℕ → State → List Staged
staged_at now state = flat_map (staged_since now) (map numbered_facts state.chunks)

-- the last of them, if there is one
abbrev pub newest : List Staged → Option Staged
newest chunks = slice_get chunks (length chunks - 1)

-- whether an append to this chunk is its first
abbrev pub is_new : ℕ → Option Staged → Bool
is_new serial None = true
is_new serial (Some last) = nat_lt last.serial serial

-- the staged chunks when an append went to this one
abbrev pub noted : ℕ → ℕ → List Staged → List Staged
noted serial now chunks = if is_new serial (newest chunks)
    then chunks ++ record { serial = serial; since = now } ∷ [] else chunks

-- whether a chunk that is staged since then is to be queued now
abbrev pub is_due : FlushMode → ℕ → ℕ → Staged → Bool
is_due Immediate interval now staged = true
is_due Interval interval now staged = not (nat_lt (now - staged.since) interval)

-- the first of them, if it is to be queued now
abbrev pub due_in : FlushMode → ℕ → ℕ → List Staged → Option ℕ
due_in mode interval now [] = None
due_in mode interval now (staged ∷ more) = if is_due mode interval now staged
    then Some staged.serial else None

-- The first of these were to be queued now, and are staged no more; these are left.
pub record AreLeft (mode : FlushMode) (interval now : ℕ) (left before : List Staged) : Type 0 where
  pub gone : List Staged
  pub is : before ≡ gone ++ left
  pub due : All (λ staged. is_due mode interval now staged ≡ true) gone

-- none of a buffer's staged chunks is to be queued now
abbrev pub IsNoneDue : ℕ → Plan → Type 0
IsNoneDue now plan = due_in plan.mode plan.interval now plan.chunks ≡ None

-- a buffer's plan once an append at this time went to this chunk
pub record IsNoted (serial now : ℕ) (old new : Plan) : Type 0 where
  pub chunks : new.chunks ≡ noted serial now old.chunks
  pub timing : timing_of new ≡ timing_of old
