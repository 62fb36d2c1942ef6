-- When events happened, as their senders say.
use Rattle.std.specs.Prelude.{ℤ, pos, neg_ℤ, ◌≡◌, ◌≤ℤ◌, ◌⊎◌, List, [], ◌∷◌, Option, Some, None, MatchOption, int_lt, if◌then◌else◌}
use Rattle.std.specs.List.{AllByRecursion}
use Rattle.event_listing.specs.Events.{IsTimeOf}
use Rattle.jiff_core.specs.DateTime.{civil_nanos}
use Rattle.sink_series.specs.Events.{Event}
use Rattle.folder_counts.specs.declared.instant.Instant.{Instant}

-- so many nanoseconds after the beginning of 1970 the year is one that RFC 3339 writes: from
-- 0000-01-01T00:00:00Z to the end of 9999
pub record IsDated (nanos : ℤ) : Type 0 where
  pub first : neg_ℤ (pos 62167219200000000000) ≤ℤ nanos
  pub last : nanos ≤ℤ pos 253402300799999999999

-- a clock in UTC shows this at the instant, where it is in these years
abbrev pub IsShown : Instant → Type 0
IsShown instant = MatchOption instant.shown (IsDated instant.nanos → ⊥)
    (λ shown. IsDated instant.nanos × (civil_nanos shown ≡ instant.nanos))

-- the time of an event, in nanoseconds since the beginning of 1970, isn't before this
pub record IsNotBefore (nanos : ℤ) (event : Event) : Type 0 where
  pub time : ℤ
  pub is : IsTimeOf event.entry time
  pub later : nanos ≤ℤ time

-- one of these events has this time
abbrev pub HasEventAt : List Event → ℤ → Type 0
HasEventAt [] nanos = ⊥
HasEventAt (event ∷ events) nanos = IsTimeOf event.entry nanos ⊎ HasEventAt events nanos

-- one of these events has this time, and none an earlier one
pub record IsOldestOf (events : List Event) (nanos : ℤ) : Type 0 where
  pub one : HasEventAt events nanos
  pub each : AllByRecursion (IsNotBefore nanos) events

-- the time of the oldest of these events; none where there are no events
abbrev pub IsOldest : List Event → Option ℤ → Type 0
IsOldest events None = events ≡ []
IsOldest events (Some nanos) = IsOldestOf events nanos

-- the time of an event isn't after this
pub record IsNotAfter (nanos : ℤ) (event : Event) : Type 0 where
  pub time : ℤ
  pub is : IsTimeOf event.entry time
  pub earlier : time ≤ℤ nanos

-- one of these events has this time, and none a later one
pub record IsNewestOf (events : List Event) (nanos : ℤ) : Type 0 where
  pub one : HasEventAt events nanos
  pub each : AllByRecursion (IsNotAfter nanos) events

-- the time of the newest of these events; none where there are no events
abbrev pub IsNewest : List Event → Option ℤ → Type 0
IsNewest events None = events ≡ []
IsNewest events (Some nanos) = IsNewestOf events nanos

-- the same time as an instant, where there is one
abbrev pub IsSameTime : Option ℤ → Option Instant → Type 0
IsSameTime None None = Unit {0}
IsSameTime None (Some instant) = ⊥
IsSameTime (Some nanos) None = ⊥
IsSameTime (Some nanos) (Some instant) = (instant.nanos ≡ nanos) × IsShown instant

-- the oldest of these events happened then; none where there are no events
abbrev pub IsOldestAt : List Event → Option Instant → Type 0
IsOldestAt events None = events ≡ []
IsOldestAt events (Some instant) = IsOldestOf events instant.nanos × IsShown instant

-- the newest of these events happened then; none where there are no events
abbrev pub IsNewestAt : List Event → Option Instant → Type 0
IsNewestAt events None = events ≡ []
IsNewestAt events (Some instant) = IsNewestOf events instant.nanos × IsShown instant

-- the later of both instants, where both are there
abbrev pub later_instant : Option Instant → Option Instant → Option Instant
later_instant None b = b
later_instant (Some first) None = Some first
later_instant (Some first) (Some second) =
    Some (if int_lt first.nanos second.nanos then second else first)
