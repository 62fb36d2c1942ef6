-- What is written, also where the writer fails.
use Rattle.std.specs.Prelude.{◌≡◌, ◌<◌, ℕ, List, [], ◌++◌, length, Option, ◌⊎◌}
use Rattle.std.specs.Io.KnownBytes.{Appends}
use Rattle.program_text.specs.declared.status.Status.{Status}
use Rattle.program_text.specs.declared.status.Status.TheVariants.{Usage}

-- a writer took a beginning of the bytes, and not the rest of them
pub record TakesPart (old new : Option (List ℕ)) (bytes unseen : List ℕ) : Type 0 where
  pub written : List ℕ
  pub appends : Appends old new written
  pub whole : written ++ unseen ≡ bytes

-- A writer took all of the bytes, and the status is the one that they mean; or it failed before it
-- had them all, and the status says that.
abbrev pub IsPrinted : Option (List ℕ) → Option (List ℕ) → List ℕ → Status → Status → Type 0
IsPrinted old new bytes meant status = (unseen : List ℕ) × TakesPart old new bytes unseen
    × (((status ≡ meant) × (unseen ≡ [])) ⊎ ((status ≡ Usage) × (0 < length unseen)))
