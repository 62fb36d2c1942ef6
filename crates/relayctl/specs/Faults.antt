-- The faults of a plan behind its first one: those that are left where some lines of its texts are
-- blank.
use Rattle.std.specs.Prelude.{◌≡◌, ◌⊎◌, ℕ, List, [], ◌∷◌, ◌++◌}
use Rattle.std.specs.List.{AllZip}
use Rattle.plan_lines.specs.Faults.{IsRefusal}
use Rattle.plan_lines.specs.declared.error.PlanError.{PlanError}

-- the second is the first, or a blank in its place, where that isn't a line feed
abbrev pub IsByteOrBlank : ℕ → ℕ → Type 0
IsByteOrBlank byte other = (other ≡ byte) ⊎ ((¬ (byte ≡ 10)) × (other ≡ 32))

-- the second text is the first with blanks in place of some of its bytes: it has the same lines,
-- but for what is blank
abbrev pub IsBlanked : List ℕ → List ℕ → Type 0
IsBlanked text other = AllZip IsByteOrBlank text other

-- What is left of texts, in their order: some aren't there, and others have blanks in place of some
-- of their bytes.
pub data AreLeft : List (List ℕ) → List (List ℕ) → Type 0 where
  none : AreLeft [] []
  kept : {texts left : List (List ℕ)} (text other : List ℕ) → AreLeft texts left
      → IsBlanked text other → AreLeft (texts ++ text ∷ []) (left ++ other ∷ [])
  gone : {texts left : List (List ℕ)} (text : List ℕ) → AreLeft texts left
      → AreLeft (texts ++ text ∷ []) left

-- The plan has this fault first, where something of its text and of its configurations is blank,
-- and those that it doesn't name then aren't there.
pub record IsFaultLeft (A : Type 0) (given : List ℕ) (confs : List (List ℕ))
    (fault : PlanError) : Type 0 where
  pub net : List ℕ
  pub net_is : IsBlanked given net
  pub left : List (List ℕ)
  pub left_are : AreLeft confs left
  pub refused : IsRefusal A net left fault
