-- Buffers and sinks in the order of their names.
use Rattle.std.specs.Prelude.{ℕ, Bool, List}
use Rattle.std.specs.Cmp.Lexicographic.{slice_cmp}
use Rattle.std.specs.List.Sorted.{IsPermutation, IsSortedBy}
use Rattle.std.specs.Ordering.{is_lt, nat_cmp}
use Rattle.folder_counts.specs.Views.{FolderView}

-- one path stands before another, by their bytes
abbrev pub is_before : List ℕ → List ℕ → Bool
is_before a b = is_lt (slice_cmp nat_cmp a b)

-- the same buffers and sinks, in the order of their paths
pub record IsInOrder (old new : FolderView) : Type 0 where
  pub buffers : IsPermutation old.buffers new.buffers
  pub sinks : IsPermutation old.sinks new.sinks
  pub buffers_rise : IsSortedBy (λ a b. is_before a.path b.path) new.buffers
  pub sinks_rise : IsSortedBy (λ a b. is_before a.path b.path) new.sinks
