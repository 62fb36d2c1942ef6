-- A folder whose device fails at a chosen call.
use Rattle.std.specs.Prelude.{ℕ, ◌-◌, ◌==◌, nat_lt, Bool, true, false, cond}
use Rattle.disk_files.specs.declared.fuse.Fuse.{Fuse}
use Rattle.disk_files.specs.declared.fuse.Fails.{Fails}
use Rattle.disk_files.specs.declared.fuse.Fails.TheVariants.{All, One, Nothing}

-- whether the next call of the device fails, where so many calls pass first
abbrev pub blows : Fails → ℕ → Bool
blows All passes = passes == 0
blows One passes = passes == 0
blows Nothing passes = false

-- what fails after a call that failed
abbrev pub next_of : Fails → Fails
next_of All = All
next_of One = Nothing
next_of Nothing = Nothing

-- which calls fail: so many are passed on, and all later ones fail
abbrev pub all_after : ℕ → (ℕ → Bool) → ℕ → Bool
all_after passes below k = cond (nat_lt k passes) (below k) true

-- which calls fail: so many are passed on, the next one fails and isn't passed on, and all later
-- ones are
abbrev pub one_after : ℕ → (ℕ → Bool) → ℕ → Bool
one_after passes below k = cond (nat_lt k passes) (below k)
    (cond (k == passes) true (below (k - 1)))

-- which calls fail, over a device that fails those
abbrev pub failures : Fails → ℕ → (ℕ → Bool) → ℕ → Bool
failures All passes below = all_after passes below
failures One passes below = one_after passes below
failures Nothing passes below = below

-- the folder below
abbrev pub inner_of : {D : Type 0} → Fuse D → D
inner_of f = f.inner
