-- The set of the lines that are named.
use Rattle.std.specs.Prelude.{ℕ, List, ◌∷◌, Contains, MatchBool}
use Rattle.std.specs.Ordering.{nat_cmp}
use Rattle.std.specs.BTreeSet.{BTreeSet, contains}
use Rattle.book_audit.specs.declared.line.Leaf.{Leaf}
use Rattle.book_audit.specs.declared.line.Part.{Part}
use Rattle.book_audit.specs.Audits.{Pages, AreOpenOnce, IsAgain, lines_of}

-- the set has the lines that are named and no other, each of them open, each named once
pub record AreNamed (pages : Pages) (named : List ℕ) (lines : BTreeSet ℕ) : Type 0 where
  pub has : (line : ℕ) → MatchBool (contains nat_cmp lines line) (Contains named line)
      (¬ Contains named line)
  pub once : AreOpenOnce pages named

-- a part before others names nothing that isn't open, and nothing that they name
pub record AddsOne (pages : Pages) (leaf : Leaf) (part : Part) (behind : List Part) : Type 0 where
  pub once : AreOpenOnce pages (lines_of leaf behind)
      → AreOpenOnce pages (lines_of leaf (part ∷ behind))
  pub again : IsAgain pages (lines_of leaf behind) → IsAgain pages (lines_of leaf (part ∷ behind))
