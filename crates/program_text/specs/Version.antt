-- What a program says of its version.
use Rattle.std.specs.Prelude.{◌≡◌, ◌⊎◌, ℕ, List, ◌++◌, codes, Option}
use Rattle.program_text.specs.declared.status.Status.{Status}
use Rattle.program_text.specs.declared.status.Status.TheVariants.{Done, Usage}
use Rattle.program_text.specs.Lines.{line, memory_line}
use Rattle.program_text.specs.Output.{IsPrinted}

-- the line of a program's name and a version
abbrev pub version_line : List ℕ → List ℕ → List ℕ
version_line name version = line (name ++ codes " " ++ version)

-- The line is printed; where there is no memory for it, that is said.
pub record PrintsVersion (name version : List ℕ) (old new : Option (List ℕ))
    (status : Status) : Type 0 where
  pub lines : List ℕ
  pub meant : Status
  pub said : ((lines ≡ version_line name version) × (meant ≡ Done))
      ⊎ ((lines ≡ memory_line) × (meant ≡ Usage))
  pub printed : IsPrinted old new lines meant status
