-- When the next file is due, behind a write.
use Rattle.std.specs.Prelude.{ℕ, ◌+◌, Option, Some, Result, Ok, Err, min}
use Rattle.sink_series.specs.Views.{StoredView}
use Rattle.sink_series.specs.declared.fault.SeriesFault.{SeriesFault}
use Rattle.sink_series.specs.declared.fault.SeriesFault.TheVariants.{Memory, Fault, Failed, LastNumber}

-- a sum, or the greatest number of 64 bits where that is less
abbrev pub added : ℕ → ℕ → ℕ
added a b = min (a + b) 18446744073709551615

-- how many bytes of entries a file has behind a write of so many
abbrev pub size_after : ℕ → Result StoredView SeriesFault → ℕ → ℕ
size_after size (Ok stored) more = added size more
size_after size (Err why) more = size

-- from when on the next file is due where the file can't be written: behind a write that failed
-- from this time on
abbrev pub retry_after : Option ℕ → Result StoredView SeriesFault → ℕ → Option ℕ
retry_after retry (Ok stored) from = retry
retry_after retry (Err Memory) from = retry
retry_after retry (Err Fault) from = Some from
retry_after retry (Err Failed) from = retry
retry_after retry (Err LastNumber) from = retry

-- the same where the next file can't be made: behind want of memory at once, else after the pause
abbrev pub retry_from : SeriesFault → ℕ → ℕ → ℕ
retry_from Memory time pause = time
retry_from Fault time pause = added time pause
retry_from Failed time pause = added time pause
retry_from LastNumber time pause = added time pause
