-- What is known while an event's way is looked for.
use Rattle.std.specs.Prelude.{◌≡◌, ◌==◌, ℕ, List, [], ◌∷◌, ◌++◌, ◌⊎◌, Contains, slice_index_or}
use Rattle.std.specs.BTreeSet.{BTreeSet, contains}
use Rattle.std.specs.List.{list_any}
use Rattle.std.specs.Ordering.{nat_cmp}
use Rattle.route_graph.specs.declared.visit.Mark.{Mark}
use Rattle.route_graph.specs.declared.visit.Mark.TheVariants.{Done}
use Rattle.route_graph.specs.declared.visit.Step.{Step}

-- each scope's mark, the steps to come, the next one first, and the buffers found, each once
pub record Known : Type 0 where
  pub marks : List Mark
  pub coming : List Step
  pub found : List ℕ

-- the mark of a scope; one that isn't there leads nowhere, so that all of it is found
abbrev pub mark_at : List Mark → ℕ → Mark
mark_at marks scope = slice_index_or marks scope Done

-- The one list of numbers with another: at the end, if it wasn't there.
abbrev pub IsWith : List ℕ → ℕ → List ℕ → Type 0
IsWith found number more = (Contains found number × (more ≡ found))
    ⊎ ((¬ Contains found number) × (more ≡ found ++ number ∷ []))

-- The set has the numbers of the list, and no others.
abbrev pub HasNumbers : BTreeSet ℕ → List ℕ → Type 0
HasNumbers set numbers = (number : ℕ) → contains nat_cmp set number
    ≡ list_any (λ other. other == number) numbers
