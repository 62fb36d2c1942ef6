-- How often a device has refused, and which of its calls fail.
use Rattle.std.specs.Prelude.{◌≡◌, ◌⊎◌, ◌↔◌, ℕ, ◌+◌, ◌-◌, ◌^◌, ◌<◌, ◌≤◌, Bool, true, Result, Err, OnOk, OnErr, IsErrOf}
use Rattle.disk_files.specs.declared.dir.DirError.{DirError}
use Rattle.disk_files.specs.declared.dir.DirError.TheVariants.{Memory, Fault}

-- the count rose, or stands at the greatest number that it can hold
abbrev pub Rises : ℕ → ℕ → Type 0
Rises before after = (before < after) ⊎ (2 ^ 64 - 1 ≤ after)

-- The count rises at each refusal but for want of memory, and at nothing else.
pub record HasCause {T : Type 0} (before after : ℕ) (result : Result T DirError) : Type 0 where
  pub later : before ≤ after
  pub passed : OnOk result (after ≡ before)
  pub memory : IsErrOf result Memory → after ≡ before
  pub refused : OnErr result ((result ≡ Err Memory) ⊎ Rises before after)

-- A call of the device fails exactly where it was to, and each later one is a call nearer.
pub record FailsInTurn {T : Type 0} (before after : ℕ → Bool)
    (result : Result T DirError) : Type 0 where
  pub first : IsErrOf result Fault ↔ (before 0 ≡ true)
  pub later : (k : ℕ) → after k ≡ before (k + 1)
