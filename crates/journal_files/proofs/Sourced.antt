-- What opening finds is what the new generation copies from.
use Rattle.std.proofs.Common.{◌≡◌, ℕ, ◌+◌, ◌<◌, ◌≤◌, ◌^◌, List, Option, Some, None, sym, ap, subst, ◌∙◌, arith, inl, inr}
use Rattle.std.specs.Prelude.{IsSome, IfSome}
use Rattle.std.proofs.lemmas.Bool.{cases_lt}
use Rattle.disk_files.specs.Disk.{Disk, Folder, SameDisk, reads, read_of}
use Rattle.disk_files.specs.declared.dir.FileNo.{FileNo}
use Rattle.buffer_state.specs.State.{State}
use Rattle.chunk_journal.specs.Places.{Spots}
use Rattle.journal_files.specs.Folders.{journal_name}
use Rattle.journal_files.specs.Found.{IsFound, IsMeant, IsGeneration, FindsSource}
use Rattle.journal_files.specs.Sources.{HasSource}
use Rattle.journal_files.proofs.Names.{same_number}
use Rattle.journal_files.proofs.Renewing.{is_some_name}
use Rattle.journal_files.proofs.Strays.{not_some}

-- a generation that is there is at most the greatest
at_most : (path : List ℕ) (folder : Folder) (greatest number : ℕ) (bytes : List ℕ) → IsFound path folder greatest → number < 2 ^ 32 → folder (journal_name path number) ≡ Some bytes → number ≤ greatest
at_most path folder greatest number bytes found below there =
    elim (cases_lt greatest number) [
      | inl over ↦ absurd (not_some (folder (journal_name path number)) (found.above number over below) (is_some_name _ _ there))
      | inr le ↦ le
    ]

-- the open file of the generation that was read
pub found_source : (opened : FileNo → Option (List ℕ)) (disk : Disk) (path : List ℕ) (greatest number : ℕ) (file : FileNo) (spots : Spots) (state : State) → IsFound path (reads disk) greatest → number < 2 ^ 32
    → opened file ≡ Some (journal_name path number) → IsMeant (reads disk (journal_name path number)) state spots → IsGeneration opened disk path greatest file spots state
found_source opened disk path greatest number file spots state found below named m = record {
  number = number;
  within = at_most path (reads disk) greatest number m.bytes found below m.there;
  named = named;
  bytes = m.bytes;
  there = m.there;
  small = m.small;
  placed = m.means.placed;
}

-- the same, where more numbers are taken
pub finds_too : (opened : FileNo → Option (List ℕ)) (disk : Disk) (path : List ℕ) (there taken : ℕ) (spots : Spots) (state : State) → there ≤ taken → (file : Option FileNo) → FindsSource opened disk path there file spots state
    → FindsSource opened disk path taken file spots state
finds_too opened disk path there taken spots state from None none = none
finds_too opened disk path there taken spots state from (Some file) g = record { number = g.number; within = omega (arith, g.within, from); named = g.named; bytes = g.bytes; there = g.there; small = g.small; placed = g.placed }

-- the same, as it is answered
pub finds_so : (opened : FileNo → Option (List ℕ)) (disk : Disk) (path : List ℕ) (greatest k : ℕ) (file : FileNo) (o : Option FileNo) (spots places : Spots) (state chunks : State) → k ≡ greatest → o ≡ Some file → places ≡ spots → chunks ≡ state
    → IsGeneration opened disk path greatest file spots state → FindsSource opened disk path k o places chunks
finds_so opened disk path greatest k file o spots places state chunks k_is o_is places_is chunks_is g =
    subst (λ (n : ℕ). FindsSource opened disk path n o places chunks) (sym k_is)
    (subst (λ (f : Option FileNo). FindsSource opened disk path greatest f places chunks) (sym o_is)
    (subst (λ (p : Spots). IsGeneration opened disk path greatest file p chunks) (sym places_is)
    (subst (IsGeneration opened disk path greatest file spots) (sym chunks_is) g)))

-- after calls that leave the open files alone
module _ (before after : FileNo → Option (List ℕ)) (others : (other : FileNo) → IsSome (before other) → after other ≡ before other) where
  pub still_open : (file : Option FileNo) → IfSome file (λ f. IsSome (before f)) → IfSome file (λ f. IsSome (after f))
  still_open None is = is
  still_open (Some f) is = subst IsSome (sym (others f is)) is

  -- and the disk
  pub still_source : (old new : Disk) (path : List ℕ) (greatest : ℕ) (file : Option FileNo) (spots : Spots) (state : State) → SameDisk new old → greatest + 1 < 2 ^ 32
      → FindsSource before old path greatest file spots state → HasSource after new (journal_name path (greatest + 1)) file spots state
  still_source old new path greatest None spots state same last none = none
  still_source old new path greatest (Some f) spots state same last g = record {
    seen = g.bytes;
    other = record {
      source = journal_name path g.number;
      source_is = others f (is_some_name _ _ g.named) ∙ g.named;
      apart = λ e. (let numbers = same_number path g.number (greatest + 1) (omega (arith, g.within, last)) last e in omega (arith, numbers, g.within));
      there = ap read_of (same (journal_name path g.number)) ∙ g.there;
    };
    small = g.small;
    placed = g.placed;
  }
