-- How long a chunk waits (Fluentd, "Config: Buffer Section").
use Rattle.std.specs.Prelude.{ℕ, ◌*◌, ◌-◌, ◌^◌, min, Option, None, Some}
use Rattle.retry_waits.specs.declared.settings.RetrySettings.{RetrySettings}

-- a number of seconds, at most the longest interval where there is one
abbrev pub within : Option ℕ → ℕ → ℕ
within None seconds = seconds
within (Some longest) seconds = min seconds longest

-- the seconds to wait after so many failures: `retry_wait` times `retry_exponential_backoff_base`
-- to the power of the failures before the last, at most `retry_max_interval`, and at most the
-- greatest u64
abbrev pub wait_after : RetrySettings → ℕ → ℕ
wait_after settings failures =
    min (within settings.max_interval
    (settings.wait * settings.exponential_backoff_base ^ (failures - 1))) (2 ^ 64 - 1)
