-- What is told of places, and what is said of it. Times are in milliseconds.
use Rattle.std.specs.Prelude.{ℕ, Bool, true, false, not, ◌&&◌, nat_le, ◌≡◌, ◌+◌, ◌-◌, ◌^◌, ◌<◌, ◌≤◌, ◌⊎◌, min, List, Option, None, Some, is_some, option_map, slice_get, slice_set, if◌then◌else◌}
use Rattle.relay_notices.specs.declared.notice.Notice.{Notice}
use Rattle.relay_notices.specs.declared.notice.Notice.TheVariants.{Works}
use Rattle.relay_notices.specs.declared.slot.Pending.{Pending}
use Rattle.relay_notices.specs.declared.slot.Slot.{Slot}
use Rattle.relay_notices.specs.declared.slot.Tally.{Tally}
use Rattle.relay_notices.specs.declared.limiter.Due.{Due}

-- for how long nothing more is said of a place behind a line: ten seconds
abbrev pub quiet : ℕ
quiet = 10000

-- the notice says that what failed before fails no more
abbrev pub is_good : Notice → Bool
is_good Works = true
is_good _ = false

-- a place of which nothing was told
abbrev pub untold : Slot
untold = record {
  pending = None;
  due = 0;
  tally = record { is_failing = false; failures = 0; works = 0 };
}

-- one more, as far as 64 bits go
abbrev pub one_more : ℕ → ℕ
one_more n = min (n + 1) (2 ^ 64 - 1)

-- how often a place worked and failed, with this notice: it fails where this says so
abbrev pub counted : Notice → Tally → Tally
counted notice tally = if is_good notice
    then record { is_failing = false; failures = tally.failures; works = one_more tally.works }
    else record { is_failing = true; failures = one_more tally.failures; works = tally.works }

-- how many notices are left out of the next line, with one notice more
abbrev pub left_out_of : Option Pending → ℕ
left_out_of None = 0
left_out_of (Some pending) = one_more pending.left_out

-- what is to be said of a place once this was told: this, and the notices before it are left out.
-- That it works isn't said where it didn't fail
abbrev pub pending_with : Notice → Slot → Option Pending
pending_with notice slot = if is_good notice && not slot.tally.is_failing then slot.pending
    else Some (record { notice = notice; left_out = left_out_of slot.pending })

-- a place once this was told
abbrev pub told : Notice → Slot → Slot
told notice slot = record {
  pending = pending_with notice slot;
  due = slot.due;
  tally = counted notice slot.tally;
}

-- places once this was told of that one
abbrev pub told_of : ℕ → Notice → List Slot → Option Slot → List Slot
told_of place notice slots None = slots
told_of place notice slots (Some slot) = slice_set slots place (told notice slot)

abbrev pub told_at : ℕ → Notice → List Slot → List Slot
told_at place notice slots = told_of place notice slots (slice_get slots place)

-- whether something is to be said of a place now
abbrev pub is_due : ℕ → Slot → Bool
is_due now slot = is_some slot.pending && nat_le slot.due now

-- a place once all that was told of it was said now: nothing more is said for a while
abbrev pub said : ℕ → Slot → Slot
said now slot = record { pending = None; due = min (now + quiet) (2 ^ 64 - 1); tally = slot.tally }

-- how often the place with this number worked and failed, if it is one
abbrev pub tally_at : ℕ → List Slot → Option Tally
tally_at place slots = option_map (λ slot. slot.tally) (slice_get slots place)

-- nothing is to be said of a place now: nothing was told, or something was said a while ago
abbrev pub IsQuiet : ℕ → Slot → Type 0
IsQuiet now slot = (slot.pending ≡ None) ⊎ (now < slot.due)

-- This is said now of its place, all that was told of it, and there nothing was said for a while;
-- of the others nothing is.
pub record IsSaid (now : ℕ) (due : Due) (old new : List Slot) : Type 0 where
  pub slot : Slot
  pub at : slice_get old due.place ≡ Some slot
  pub told : slot.pending ≡ Some due.pending
  pub waited : slot.due ≤ now
  pub after : new ≡ slice_set old due.place (said now slot)
