-- A journal: whole records, one after another, up to the first place where no whole record stands.
use Rattle.std.specs.Prelude.{ℕ, suc, ◌≡◌, ◌+◌, ◌-◌, ◌<◌, ◌≤◌, ◌⊎◌, List, [], ◌∷◌, ◌++◌, length, take, nat_lt, if◌then◌else◌}
use Rattle.std.specs.List.{AllByRecursion, flat_map}
use Rattle.std.specs.Int.{w32, from_be_bytes}
use Rattle.chunk_journal.specs.Records.{Record, longest_body, record_bytes, IsRecord}

-- the length that the first four bytes say
abbrev pub said_length : List ℕ → ℕ
said_length bytes = from_be_bytes w32 (take 4 bytes)

-- the bytes end before a record is whole: within its length, or with fewer bytes behind it than it
-- says, where a record may have so many
abbrev pub IsTorn : List ℕ → Type 0
IsTorn bytes = (length bytes < 4)
    ⊎ ((0 < said_length bytes)
    × (said_length bytes ≤ longest_body)
    × (length bytes < 4 + said_length bytes))

-- something whole stands here that is no record: a length that none has, or as many bytes as it
-- says that spell none
pub record IsBad (bytes : List ℕ) : Type 0 where
  pub whole : IsTorn bytes → ⊥
  pub none : (item : Record) (more : List ℕ) → IsRecord item → bytes ≡ record_bytes item ++ more → ⊥

-- the records one after another
abbrev pub journal_bytes : List Record → List ℕ
journal_bytes records = flat_map record_bytes records

-- the bytes are these records, and then the rest
pub record BeginsWith (records : List Record) (rest bytes : List ℕ) : Type 0 where
  pub each : AllByRecursion IsRecord records
  pub whole : bytes ≡ journal_bytes records ++ rest

-- the bytes are these whole records, and end before another is whole
pub record IsJournal (bytes : List ℕ) (records : List Record) (rest : List ℕ) : Type 0 where
  pub each : AllByRecursion IsRecord records
  pub whole : bytes ≡ journal_bytes records ++ rest
  pub torn : IsTorn rest

-- how many of the records end within the first n bytes
abbrev pub within : List Record → ℕ → ℕ
within [] n = 0
within (item ∷ items) n =
    if nat_lt n (length (record_bytes item)) then 0
    else suc (within items (n - length (record_bytes item)))
