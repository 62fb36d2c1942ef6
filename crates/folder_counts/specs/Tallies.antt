-- How far a file that spells events is counted, for the proofs of this crate.
use Rattle.std.specs.Prelude.{ℕ, ℤ, ◌≡◌, ◌+◌, ◌<◌, List, [], ◌++◌, length, Option, Some, None}
use Rattle.std.specs.Int.{int_max, int_min}
use Rattle.std.specs.List.{AllByRecursion}
use Rattle.event_listing.specs.Events.{IsTimeOf}
use Rattle.event_listing.specs.Forms.{Form, Under, spelled, spelled_run, BeginsNo, IsIn}
use Rattle.event_listing.specs.Reading.{longest_item}
use Rattle.buffer_state.specs.State.{State}
use Rattle.event_listing.specs.Live.{live_events}
use Rattle.sink_series.specs.Events.{Event}
use Rattle.folder_counts.specs.Instants.{IsNewest, IsOldest}
use Rattle.folder_counts.specs.declared.events.Tally.{Tally}
use Rattle.folder_counts.specs.declared.events.FoundEvents.{FoundEvents}
use Rattle.folder_counts.specs.declared.events.FoundEvents.TheVariants as found
use Rattle.folder_counts.specs.declared.events.Oldest.{Oldest}
use Rattle.folder_counts.specs.declared.events.Oldest.TheVariants as oldest

-- the earlier of both times, where both are there
abbrev pub earlier : Option ℤ → Option ℤ → Option ℤ
earlier None b = b
earlier (Some first) None = Some first
earlier (Some first) (Some second) = Some (int_min first second)

-- the later of both times, where both are there
abbrev pub later : Option ℤ → Option ℤ → Option ℤ
later None b = b
later (Some first) None = Some first
later (Some first) (Some second) = Some (int_max first second)

-- with one event more, of this time
abbrev pub with_event : Tally → ℤ → Tally
with_event tally nanos =
    record {
      events = tally.events + 1;
      oldest = earlier tally.oldest (Some nanos);
      newest = later tally.newest (Some nanos);
    }

-- the bytes begin with an event of this time, behind which these stand
pub record IsFirst (form : Form) (bytes : List ℕ) (nanos : ℤ) (behind : List ℕ) : Type 0 where
  pub event : Event
  pub is : IsIn form event
  pub first : bytes ≡ spelled form event ++ behind
  pub time : IsTimeOf event.entry nanos

-- these events are counted so
pub record IsTallyOf (events : List Event) (tally : Tally) : Type 0 where
  pub count_is : tally.events ≡ length events
  pub oldest_is : IsOldest events tally.oldest
  pub newest_is : IsNewest events tally.newest

-- The bytes hold events, up to the first place where none is whole, and behind them stand these;
-- with those before they are counted so.
pub record Adds (form : Form) (before : Tally) (bytes : List ℕ) (after : Tally)
    (rest : List ℕ) : Type 0 where
  pub events : List Event
  pub each : AllByRecursion (IsIn form) events
  pub whole : bytes ≡ spelled_run form events ++ rest
  pub torn : BeginsNo form rest
  pub counted : (others : List Event) → IsTallyOf others before → IsTallyOf (others ++ events) after

-- what was counted, how many bytes spell that, and what is held behind it
pub record HeldView : Type 0 where
  pub tally : Tally
  pub taken : ℕ
  pub bytes : List ℕ

-- the events of these bytes were counted, and what stands behind them is held
pub record IsHeldAfter (form : Form) (held : HeldView) (seen : List ℕ) : Type 0 where
  pub events : List Event
  pub each : AllByRecursion (IsIn form) events
  pub whole : seen ≡ spelled_run form events ++ held.bytes
  pub torn : BeginsNo form held.bytes
  pub counted : IsTallyOf events held.tally
  pub taken_is : held.taken + length held.bytes ≡ length seen

-- the events of these bytes are counted so; so many bytes spell them, and so many stand behind them
pub record IsWholeFile (form : Form) (bytes : List ℕ) (tally : Tally)
    (taken torn : ℕ) : Type 0 where
  pub events : List Event
  pub each : AllByRecursion (IsIn form) events
  pub rest : List ℕ
  pub whole : bytes ≡ spelled_run form events ++ rest
  pub none : BeginsNo form rest
  pub counted : IsTallyOf events tally
  pub taken_is : taken + torn ≡ length bytes
  pub torn_is : torn ≡ length rest

-- behind the events of these bytes stand more than any event has
pub record IsLong (form : Form) (bytes : List ℕ) : Type 0 where
  pub events : List Event
  pub each : AllByRecursion (IsIn form) events
  pub rest : List ℕ
  pub whole : bytes ≡ spelled_run form events ++ rest
  pub none : BeginsNo form rest
  pub long : longest_item < length rest

-- this is found in a file of these bytes; nothing is said of them where it isn't read to its end
abbrev pub IsInFile : Form → List ℕ → FoundEvents → Type 0
IsInFile form bytes (found.Whole tally taken torn) = IsWholeFile form bytes tally taken torn
IsInFile form bytes found.Damaged = IsLong form bytes
IsInFile form bytes found.Unread = Unit {0}

-- the bytes are stored entries, of which the oldest has this time
pub record AreOldestIn (bytes : List ℕ) (nanos : Option ℤ) : Type 0 where
  pub events : List Event
  pub each : AllByRecursion (IsIn (Under [])) events
  pub whole : bytes ≡ spelled_run (Under []) events
  pub oldest_is : IsOldest events nanos

-- the same of bytes that are read to their end
abbrev pub IsOldestIn : List ℕ → Oldest → Type 0
IsOldestIn bytes (oldest.Known nanos) = AreOldestIn bytes nanos
IsOldestIn bytes oldest.Unread = Unit {0}

-- the oldest of the events of live chunks has this time, where all were read
abbrev pub IsOldestLive : State → Oldest → Type 0
IsOldestLive state (oldest.Known nanos) = IsOldest (live_events state) nanos
IsOldestLive state oldest.Unread = Unit {0}
