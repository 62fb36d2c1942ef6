-- What is found in the bytes of a journal.
use Rattle.std.specs.Prelude.{ℕ, ◌≡◌, ◌-◌, List, length}
use Rattle.chunk_journal.specs.Meaning.{EndsUnsealed, IsDamaged}
use Rattle.chunk_journal.specs.Outlines.{IsOutlined}
use Rattle.chunk_journal.specs.declared.outline.Outlined.{Outlined}
use Rattle.folder_listing.specs.declared.journal.FoundJournal.{FoundJournal}
use Rattle.folder_listing.specs.declared.journal.FoundJournal.TheVariants.{Sealed, Unsealed, Damaged, Unread}

-- a journal of these bytes means this, and so many bytes are torn at its end
pub record IsSealedIn {A : Type 0} (bytes : List ℕ) (outlined : Outlined A)
    (torn : ℕ) : Type 0 where
  pub means : IsOutlined bytes outlined.chunks outlined.places outlined.used
  pub torn_is : torn ≡ length bytes - outlined.used

-- this is found in a journal of these bytes; nothing is said of them where it isn't read to its end
abbrev pub IsInJournal : {A : Type 0} → List ℕ → FoundJournal A → Type 0
IsInJournal bytes (Sealed outlined torn) = IsSealedIn bytes outlined torn
IsInJournal bytes Unsealed = EndsUnsealed bytes
IsInJournal bytes Damaged = IsDamaged bytes
IsInJournal bytes Unread = Unit {0}
