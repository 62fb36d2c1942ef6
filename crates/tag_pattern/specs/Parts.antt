-- Tags: byte texts of parts that dots separate.
use Rattle.std.specs.Prelude.{◌≡◌, ◌≢◌, ℕ, List, [], ◌==◌}
use Rattle.std.specs.List.{AllByRecursion, slice_split, join_with_byte}

-- the most bytes of a tag; chosen here
abbrev pub most_tag_bytes : ℕ
most_tag_bytes = 1024

-- the code of a dot
abbrev pub dot : ℕ
dot = 46

-- a list of bytes without a dot
abbrev pub IsDotFree : List ℕ → Type 0
IsDotFree part = AllByRecursion (λ b. b ≢ dot) part

-- The parts of a tag are what its dots separate (Fluentd, "Config File Syntax", "How Do Match
-- Patterns Work?"). n dots give n + 1 parts; that a part may be empty is chosen here.
abbrev pub parts_of : List ℕ → List (List ℕ)
parts_of tag = slice_split (λ b. b == dot) tag

-- These are the parts of the tag: one or more texts without dots, which dots join to it.
pub record ArePartsOf (tag : List ℕ) (parts : List (List ℕ)) : Type 0 where
  pub some : parts ≢ []
  pub dot_free : AllByRecursion IsDotFree parts
  pub joined : join_with_byte dot parts ≡ tag

-- Each tag has these parts and no others. So tags and non-empty lists of texts without dots are one
-- to one: each such list is the parts of the tag to which dots join it.
abbrev pub PartsAreUnique : Type 0
PartsAreUnique = (tag : List ℕ) → ArePartsOf tag (parts_of tag)
    × ((parts : List (List ℕ)) → ArePartsOf tag parts → parts ≡ parts_of tag)
