-- What the failures of a chunk say. Times are milliseconds since one fixed start.
use Rattle.std.specs.Prelude.{ℕ, Bool, cond, nat_lt, ◌≡◌, ◌+◌, ◌*◌, ◌-◌, ◌^◌, ◌<◌, ◌≤◌, ◌⊎◌, ⊤, false, min, refl, List, Option, None, Some}
use Rattle.std.specs.Coded.{Coded, code_by, coded×, coded_ℕ}
use Rattle.std.specs.List.{All}
use Rattle.retry_waits.specs.declared.settings.RetrySettings.{RetrySettings}
use Rattle.retry_waits.specs.declared.failed.Failed.{Failed}
use Rattle.retry_waits.specs.Waits.{wait_after}

-- the failures of a chunk with one more, now: a chunk that hasn't failed has failed once; the first
-- stays, and the count stays at the greatest u64
abbrev pub noted : ℕ → Option Failed → Failed
noted now None = record { count = 1; first = now; last = now }
noted now (Some failed) =
    record { count = min (failed.count + 1) (2 ^ 64 - 1); first = failed.first; last = now }

-- so many seconds have passed since then
abbrev pub HasPassed : ℕ → ℕ → ℕ → Type 0
HasPassed seconds since now = since + 1000 * seconds ≤ now

-- the chunk may be tried: it hasn't failed, or the wait after its failures has passed since the
-- last of them
abbrev pub IsDue : RetrySettings → Option Failed → ℕ → Type 0
IsDue settings None now = ⊤
IsDue settings (Some failed) now = HasPassed (wait_after settings failed.count) failed.last now

-- the moment so many seconds after that, at most the greatest u64
abbrev pub moment_of : (seconds since : ℕ) → ℕ
moment_of seconds since = min (since + 1000 * seconds) (2 ^ 64 - 1)

-- whether the chunk has failed more often than `retry_max_times`, where that is set
abbrev pub is_past_times : Option ℕ → ℕ → Bool
is_past_times None count = false
is_past_times (Some most) count = nat_lt most count

-- from when on the retries of the chunk are over, where they don't go on for ever: at any time
-- where it is past `retry_max_times`, else once `retry_timeout` has passed
abbrev pub over_moment : RetrySettings → Failed → ℕ
over_moment settings failed =
    cond (is_past_times settings.max_times failed.count) 0 (moment_of settings.timeout failed.first)

-- from when on the chunk is to be looked at again: its wait has passed, or its retries are over
abbrev pub look_moment : RetrySettings → Failed → ℕ
look_moment settings failed =
    let due = moment_of (wait_after settings failed.count) failed.last in
    cond settings.forever due (min due (over_moment settings failed))

-- the chunk has failed more often than `retry_max_times`, where that is set
abbrev pub IsPastTimes : Option ℕ → ℕ → Type 0
IsPastTimes None count = ⊥
IsPastTimes (Some most) count = most < count

-- the chunk is to be given up: `retry_forever` is false, it has failed, and either `retry_timeout`
-- has passed since its first failure or its failures are past `retry_max_times`
abbrev pub IsOver : RetrySettings → Option Failed → ℕ → Type 0
IsOver settings None now = ⊥
IsOver settings (Some failed) now = (settings.forever ≡ false)
    × (HasPassed settings.timeout failed.first now ⊎ IsPastTimes settings.max_times failed.count)

-- each of these chunks has failed at least once
abbrev pub AreCounted : List Failed → Type 0
AreCounted chunks = All (λ failed. 1 ≤ failed.count) chunks

-- the failures of a chunk are stored as the triple of their fields
abbrev pub failed_code : Coded Failed
failed_code = code_by (ℕ × (ℕ × ℕ)) (coded× coded_ℕ (coded× coded_ℕ coded_ℕ))
    (λ f. (f.count, (f.first, f.last))) (λ t. record { count = t.0; first = t.1.0; last = t.1.1 })
    (λ _. refl)
