-- What a file that was opened and read shows of the disk.
use Rattle.std.proofs.Common.{◌≡◌, ℕ, ◌<◌, ◌^◌, List, length, Option, Some, None, refl, ap, ◌∙◌}
use Rattle.std.specs.Prelude.{IsSome}
use Rattle.disk_files.specs.Disk.{Disk, SameDisk, reads, read_of}
use Rattle.buffer_state.specs.State.{State}
use Rattle.chunk_journal.specs.Feeding.{Heard, IsAfter}
use Rattle.chunk_journal.specs.Outlines.{IsOutlined}
use Rattle.chunk_journal.specs.Places.{Spots}
use Rattle.journal_files.specs.Found.{IsMeant, IsSo}

some_of : {A : Type 0} (o : Option A) → IsSome o → (x : A) × (o ≡ Some x)
some_of None is = absurd (cc is)
some_of (Some x) is = (x, refl)

-- the file reads as it did before it was opened
module _ (old mid : Disk) (name : List ℕ) (same : SameDisk mid old) (is : IsSome (reads old name)) where
  -- it is so, as its bytes show
  pub so_of : (So : List ℕ → Type 0) → ((bytes : List ℕ) → reads mid name ≡ Some bytes → So bytes) → IsSo (reads old name) So
  so_of So shows =
      let some = some_of (reads old name) is in
      record { bytes = some.0; there = some.1; so = shows some.0 (ap read_of (same name) ∙ some.1) }

  -- it means what an outline of its bytes says
  pub meant_of : (heard : Heard) (state : State) (spots : Spots) (used : ℕ) → ((bytes : List ℕ) → reads mid name ≡ Some bytes → IsAfter heard bytes) → ((bytes : List ℕ) → reads mid name ≡ Some bytes → length bytes < 2 ^ 64)
      → ((seen : List ℕ) → IsAfter heard seen → IsOutlined seen state spots used) → IsMeant (reads old name) state spots
  meant_of heard state spots used after small means =
      let some = some_of (reads old name) is in
      let there = ap read_of (same name) ∙ some.1 in
      record { bytes = some.0; used = used; there = some.1; small = small some.0 there; means = means some.0 (after some.0 there) }
