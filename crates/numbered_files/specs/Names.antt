-- The names of numbered files.
use Rattle.std.specs.Prelude.{◌≡◌, ℕ, ◌+◌, ◌/◌, ◌%◌, ◌^◌, ◌<◌, ◌≤◌, List, [], ◌∷◌, ◌++◌, IsSome, Contains}
use Rattle.disk_files.specs.Disk.{Folder}
use Rattle.numbered_files.specs.declared.family.Family.{Family}

-- the decimal digit of a number that counts this power of ten, as a byte
abbrev pub digit : ℕ → ℕ → ℕ
digit n power = 48 + n / power % 10

-- the last ten decimal digits of a number, with zeros in front
unfoldable pub ten_digits : ℕ → List ℕ
ten_digits n =
    digit n 1000000000 ∷ digit n 100000000 ∷ digit n 10000000 ∷ digit n 1000000 ∷ digit n 100000
    ∷ digit n 10000 ∷ digit n 1000 ∷ digit n 100 ∷ digit n 10 ∷ digit n 1 ∷ []

-- the name of a file: what all names begin with, a dot, the number in ten digits, a dot, and what
-- all names end with
abbrev pub file_name : Family → ℕ → List ℕ
file_name family number = family.path.now ++ 46 ∷ (ten_digits number ++ 46 ∷ family.kind.now)

-- this is the name of the family's file of this number, from 1 on
abbrev pub IsNumber : Family → List ℕ → ℕ → Type 0
IsNumber family name n = (1 ≤ n) × (n < 2 ^ 32) × (name ≡ file_name family n)

-- among these names is that of the family's file of this number, from 1 on
abbrev pub IsNamed : Family → List (List ℕ) → ℕ → Type 0
IsNamed family names n = (1 ≤ n) × (n < 2 ^ 32) × Contains names (file_name family n)

-- the folder has the family's file of this number, from 1 on
abbrev pub IsThere : Family → Folder → ℕ → Type 0
IsThere family folder n = (1 ≤ n) × (n < 2 ^ 32) × IsSome (folder (file_name family n))

-- no two numbers of 32 bits have one name
abbrev pub NamesDiffer : Type 0
NamesDiffer = (family : Family) (n m : ℕ) → n < 2 ^ 32 → m < 2 ^ 32
    → file_name family n ≡ file_name family m → n ≡ m
