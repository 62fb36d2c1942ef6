-- How many chunks workers dealt with.
use Rattle.std.specs.Prelude.{ℕ, ◌+◌, ◌-◌, ◌^◌, min, List, [], ◌∷◌}
use Rattle.flush_pool.specs.declared.acts.Outcome.{Outcome}
use Rattle.flush_pool.specs.declared.acts.Outcome.TheVariants.{Purged, Failed, Waits}
use Rattle.flush_pool.specs.declared.worked.Worked.{Worked}
use Rattle.flush_pool.specs.Acts as acts
use Rattle.flush_pool.specs.Acts.{Act}

-- a sum that stays at the greatest u64
abbrev pub capped : ℕ → ℕ → ℕ
capped m n = min (m + n) (2 ^ 64 - 1)

-- nothing yet
abbrev pub none : Worked
none = record { purged = 0; failed = 0 }

-- one chunk more, by what came of it; a chunk that waits isn't counted
abbrev pub counted : Outcome → Worked → Worked
counted Purged worked = record { purged = capped worked.purged 1; failed = worked.failed }
counted Failed worked = record { purged = worked.purged; failed = capped worked.failed 1 }
counted (Waits others) worked = worked

-- what an act adds: a purge counts, and a failure that is noted
abbrev pub with_act : Act → Worked → Worked
with_act (acts.Purged serial shown) worked = counted Purged worked
with_act (acts.Noted serial) worked = counted Failed worked
with_act _ worked = worked

-- how many chunks were purged, and how many failures noted
abbrev pub counts : List Act → Worked
counts [] = none
counts (act ∷ acts) = with_act act (counts acts)

-- what two workers did
abbrev pub added : Worked → Worked → Worked
added one other = record {
  purged = capped one.purged other.purged;
  failed = capped one.failed other.failed;
}
