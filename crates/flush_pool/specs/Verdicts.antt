-- What is to become of a claimed chunk.
use Rattle.std.specs.Prelude.{ℕ, ◌≡◌, Bool, true, Option}
use Rattle.retry_waits.specs.declared.settings.RetrySettings.{RetrySettings}
use Rattle.retry_waits.specs.declared.failed.Failed.{Failed}
use Rattle.retry_waits.specs.Failed.{IsDue, IsOver}
use Rattle.flush_pool.specs.declared.verdict.Verdict.{Verdict}
use Rattle.flush_pool.specs.declared.verdict.Verdict.TheVariants.{Try, Wait, GiveUp}

-- the chunk is given up: its buffer lets chunks expire, and its retries are over
abbrev pub IsGivenUp : RetrySettings → Bool → Option Failed → ℕ → Type 0
IsGivenUp settings expires failed now = (expires ≡ true) × IsOver settings failed now

-- the verdict on a chunk with these failures: given up where it is, else tried where its wait has
-- passed, else it waits
abbrev pub IsVerdict : RetrySettings → Bool → Option Failed → ℕ → Verdict → Type 0
IsVerdict settings expires failed now GiveUp = IsGivenUp settings expires failed now
IsVerdict settings expires failed now Try = (¬ IsGivenUp settings expires failed now)
    × IsDue settings failed now
IsVerdict settings expires failed now Wait = (¬ IsGivenUp settings expires failed now)
    × (¬ IsDue settings failed now)

-- the verdict on a chunk by these settings, at some time and with some failures
abbrev pub IsVerdictBy : RetrySettings → Bool → Verdict → Type 0
IsVerdictBy settings expires verdict =
    (failed : Option Failed) × (now : ℕ) × IsVerdict settings expires failed now verdict
