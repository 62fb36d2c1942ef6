-- A generation is begun with chunks whose entries the older file has.
use Rattle.std.proofs.Common.{◌≡◌, ◌⊎◌, ⊎_elim, ℕ, ◌+◌, ◌<◌, ◌≤◌, ◌^◌, List, length, Option, Some, None, refl, sym, ap, subst, ◌∙◌, arith}
use Rattle.std.specs.Prelude.{IsSome}
use Rattle.std.specs.List.{flat_map}
use Rattle.disk_files.specs.Disk.{File, Disk, Changes, SameDisk, new_file, with_bytes, unlinked, read_of, reads}
use Rattle.disk_files.specs.declared.dir.FileNo.{FileNo}
use Rattle.disk_files.proofs.Moments.{here, elsewhere, follows}
use Rattle.buffer_state.specs.State.{State, Numbered}
use Rattle.buffer_state.specs.Steps.{settled, reopened}
use Rattle.chunk_journal.specs.Journal.{journal_bytes}
use Rattle.chunk_journal.specs.Meaning.{chunk_records}
use Rattle.chunk_journal.specs.Places.{Spots, ArePlaced}
use Rattle.file_pieces.specs.Pieces.{AreWithin, pieces_bytes}
use Rattle.file_pieces.specs.declared.piece.Piece.{Piece}
use Rattle.journal_files.specs.Folders.{journal_name}
use Rattle.journal_files.specs.JournalLogs.{JournalLog, records_of, state_of}
use Rattle.journal_files.specs.Views.{OpenJournal}
use Rattle.journal_files.specs.Disks.{Keeps, HasNoStray}
use Rattle.journal_files.specs.Pieces.{HasNew, sealed}
use Rattle.journal_files.specs.Sources.{CanGive, HasSource}
use Rattle.journal_files.proofs.Names.{numbers_apart, same_number}
use Rattle.journal_files.proofs.Strays.{highest_reads}
use Rattle.journal_files.proofs.Reopened.{placed_same}

-- the pieces come to what is told of the chunks
pub gives : {A : Type 0} (opened : FileNo → Option (List ℕ)) (disk : Disk) (path : List ℕ) (number : ℕ) (name : List ℕ) (spots : Spots) (s : State) (pieces items : List (Piece A)) (from : Option FileNo) → name ≡ journal_name path number → pieces ≡ items
    → ((seen : List ℕ) → length seen < 2 ^ 64 → ArePlaced seen spots s → pieces_bytes seen items ≡ journal_bytes (flat_map chunk_records s.chunks))
    → ((seen : List ℕ) → length seen < 2 ^ 64 → ArePlaced seen spots s → AreWithin seen items)
    → HasSource opened disk (journal_name path number) from spots s → CanGive opened disk name from pieces (journal_bytes (flat_map chunk_records s.chunks))
gives opened disk path number name spots s pieces items None name_is pieces_are come within none = ap (λ (chunks : List Numbered). journal_bytes (flat_map chunk_records chunks)) none
gives {A = A} opened disk path number name spots s pieces items (Some file) name_is pieces_are come within source =
    subst (λ (n : List ℕ). CanGive opened disk n (Some file) pieces (journal_bytes (flat_map chunk_records s.chunks))) (sym name_is)
    (subst (λ (p : List (Piece A)). CanGive opened disk (journal_name path number) (Some file) p (journal_bytes (flat_map chunk_records s.chunks))) (sym pieces_are)
    (record { seen = source.seen; other = source.other; within = within source.seen source.small source.placed; come = come source.seen source.small source.placed }))

-- the new file, whole
module _ (path : List ℕ) (number : ℕ) (name bytes seal : List ℕ) (old mid new : Disk) (name_is : name ≡ journal_name path number) (made : HasNew name bytes old mid) (changes : Changes name (sealed seal) mid new) where
  at : new name ≡ Some (sealed seal (with_bytes bytes new_file))
  at = here old new name _ (follows old mid new name (Some (with_bytes bytes new_file)) (sealed seal) made.made changes)

  pub new_reads : IsSome (reads new (journal_name path number))
  new_reads = subst (λ (n : List ℕ). IsSome (reads new n)) name_is (subst (λ (o : Option File). IsSome (read_of o)) (sym at) refl)

-- what the older file gives to go on from
pub own_source : (opened : FileNo → Option (List ℕ)) (journal : OpenJournal) (disk : Disk) (t : JournalLog) (s : State) (path : List ℕ) (number : ℕ) (file : FileNo) (spots : Spots) → Keeps journal disk t → journal.len < 2 ^ 64
    → settled (state_of t) ≡ reopened s → path ≡ journal.path → number ≡ journal.number + 1 → number < 2 ^ 32 → spots ≡ journal.places → opened file ≡ Some (journal_name journal.path journal.number)
    → HasSource opened disk (journal_name path number) (Some file) spots s
own_source opened journal disk t s path number file spots keeps small means path_is number_is last spots_are named = record {
  seen = journal_bytes (records_of t);
  other = record {
    source = journal_name journal.path journal.number;
    source_is = named;
    apart = λ e. omega (arith, same_number journal.path journal.number number keeps.last last (e ∙ ap (λ (p : List ℕ). journal_name p number) path_is), number_is);
    there = ap read_of keeps.there;
  };
  small = omega (arith, small, keeps.counted);
  placed = subst (λ (z : Spots). ArePlaced (journal_bytes (records_of t)) z s) (sym spots_are) (placed_same (journal_bytes (records_of t)) journal.places (state_of t) s means keeps.placed);
}

-- the older file is removed behind it
pub next_no_stray : (journal : OpenJournal) (old mid new : Disk) (t : JournalLog) (path : List ℕ) (number : ℕ) → Keeps journal old t → path ≡ journal.path → number ≡ journal.number + 1 → number < 2 ^ 32 → IsSome (reads mid (journal_name path number))
    → ((name : List ℕ) → (name ≡ journal_name path number → ⊥) → mid name ≡ old name) → SameDisk new mid ⊎ Changes (journal_name journal.path journal.number) unlinked mid new → HasNoStray journal.path new
next_no_stray journal old mid new t path number keeps path_is number_is last there same removed =
    let stays : (n : ℕ) → number ≤ n → n < 2 ^ 32 → new (journal_name journal.path n) ≡ mid (journal_name journal.path n) =
    λ n from below. ⊎_elim (λ rests. rests (journal_name journal.path n))
    (λ changes. elsewhere mid new (journal_name journal.path journal.number) (journal_name journal.path n) _ changes (numbers_apart journal.path journal.number n keeps.last below (λ e. omega (arith, e, from, number_is)))) removed in
    highest_reads journal.path new number last
    (subst (λ (o : Option File). IsSome (read_of o)) (sym (stays number (omega arith) last)) (subst (λ (p : List ℕ). IsSome (reads mid (journal_name p number))) path_is there))
    (λ n above below. stays n (omega (arith, above)) below
    ∙ same (journal_name journal.path n) (λ e. omega (arith, same_number journal.path n number below last (e ∙ ap (λ (p : List ℕ). journal_name p number) path_is), above))
    ∙ keeps.newest n (omega (arith, number_is, above)) below)
