-- What a word of a match's argument stands for.
use Rattle.std.specs.Prelude.{◌≡◌, ℕ, List}
use Rattle.tag_pattern.specs.Items.{Item}
use Rattle.tag_pattern.specs.Grammar.{Slot, IsPattern, plain_patterns}

-- the word is a pattern, and these are the plain patterns that it stands for
abbrev pub AreOfWord : List ℕ → List (List Item) → Type 0
AreOfWord word plains = (slots : List Slot) × IsPattern slots word × (plains ≡ plain_patterns slots)
