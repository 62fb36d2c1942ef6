-- What holds of the lines that are kept, apart from any call.
use Rattle.std.specs.Prelude.{ℕ, ◌≡◌, List, [], Contains}
use Rattle.std.specs.List.{AllByRecursion}
use Rattle.sha2.specs.Sha256.{sha256}
use Rattle.recent_lines.specs.Recent.{Recent, AreKept}

-- a line of the same digest is among these
abbrev pub IsAmong : List (List ℕ) → List ℕ → Type 0
IsAmong lines line = (same : List ℕ) × Contains lines same × (sha256 same ≡ sha256 line)

-- where none was kept before, each line is among those that are kept
abbrev pub NoneGoesMissing : Type 0
NoneGoesMissing = (recent now : Recent) (lines kept : List (List ℕ)) → recent.digests ≡ []
    → AreKept recent lines kept now → AllByRecursion (IsAmong kept) lines
