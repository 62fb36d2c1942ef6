-- What opening has as it begins a new generation.
use Rattle.std.proofs.Common.{◌≡◌, ℕ, ◌+◌, ◌-◌, ◌<◌, ◌^◌, List, Option, refl, subst, ◌∙◌, arith}
use Rattle.std.specs.Prelude.{IsSome}
use Rattle.disk_files.specs.Disk.{Disk, SameDisk}
use Rattle.disk_files.specs.Moments.{History, Elapses, LeavesOnly, now}
use Rattle.disk_files.specs.declared.dir.FileNo.{FileNo}
use Rattle.disk_files.proofs.Moments.{joined}
use Rattle.buffer_state.specs.State.{State}
use Rattle.chunk_journal.specs.Places.{Spots}
use Rattle.journal_files.specs.Folders.{journal_name, OpensWithin}
use Rattle.journal_files.specs.JournalLogs.{JournalLog}
use Rattle.journal_files.specs.Disks.{Recovers, HasNoneFrom, HasAllBelow, HasNoGap}
use Rattle.journal_files.specs.Found.{IsLastTaken, FindsSource}
use Rattle.journal_files.specs.Sources.{HasSource}
use Rattle.journal_files.proofs.Fresh.{none_above, all_below}
use Rattle.journal_files.proofs.OpeningMoments.{looked, recovers_same}
use Rattle.journal_files.proofs.Sourced.{still_source}

-- the disk is as it was at first, this is its greatest generation, and the next one has a source
pub record BeginsAfresh (opened : FileNo → Option (List ℕ)) (first mid : Disk) (path : List ℕ) (greatest : ℕ) (file : Option FileNo) (spots : Spots) (state : State) : Type 0 where
  pub same : SameDisk mid first
  pub small : greatest + 1 < 2 ^ 32
  pub found : IsLastTaken path first greatest
  pub source : HasSource opened mid (journal_name path (greatest + 1)) file spots state

-- so it is once the folder was looked at, and the older generations were opened
pub afresh : (before after : FileNo → Option (List ℕ)) → ((other : FileNo) → IsSome (before other) → after other ≡ before other) → (first near mid : Disk) (path : List ℕ) (greatest : ℕ) (file : Option FileNo) (spots : Spots) (state : State)
    → SameDisk near first → SameDisk mid near → greatest < 2 ^ 32 - 1 → IsLastTaken path first greatest → FindsSource before first path greatest file spots state → BeginsAfresh after first mid path greatest file spots state
afresh before after others first near mid path greatest file spots state near_same mid_same below found source =
    let same : SameDisk mid first = λ name. mid_same name ∙ near_same name in
    let small : greatest + 1 < 2 ^ 32 = omega (arith, below) in
    record {
      same = same;
      small = small;
      found = found;
      source = still_source before after others first mid path greatest file spots state same small source;
    }

module _ {opened : FileNo → Option (List ℕ)} {first mid : Disk} {path : List ℕ} {greatest : ℕ} {file : Option FileNo} {spots : Spots} {state : State} (on : BeginsAfresh opened first mid path greatest file spots state) where
  pub none : HasNoGap path first → HasNoneFrom path mid (greatest + 1)
  none gap = none_above path first mid greatest (greatest + 1) refl on.found gap on.same

  pub all : HasNoGap path first → HasAllBelow path mid (greatest + 1)
  all gap = all_below path first mid greatest on.found gap on.small on.same

-- a stop while the new generation is begun, once the folder was looked at twice
pub beginning : (path : List ℕ) (t : JournalLog) (old near mid new : History) → Recovers path (now old) t → Elapses old near → SameDisk (now near) (now old) → Elapses near mid → SameDisk (now mid) (now near)
    → (Recovers path (now mid) t → LeavesOnly mid new (OpensWithin path t)) → LeavesOnly old new (OpensWithin path t)
beginning path t old near mid new before near_time near_same mid_time mid_same moments =
    joined old mid new (OpensWithin path t) (looked path t old near mid before near_time near_same mid_time mid_same)
    (moments (recovers_same path t (now old) (now mid) (λ name. mid_same name ∙ near_same name) before))

-- what holds of this path and number, said of the same ones
pub said_of : (P : List ℕ → ℕ → Type 0) {path other : List ℕ} {number another : ℕ} → path ≡ other → number ≡ another → P path number → P other another
said_of P {other = other} {number = number} path_is number_is p = subst (P other) number_is (subst (λ (q : List ℕ). P q number) path_is p)
