-- Which scopes a search has gone through.
use Rattle.std.specs.Prelude.{ℕ, Bool, true, List, slice_index_or}

-- whether the scope was gone through; one that isn't there leads nowhere, and counts as gone
-- through
abbrev pub mark_at : List Bool → ℕ → Bool
mark_at marks scope = slice_index_or marks scope true
