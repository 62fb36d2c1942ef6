-- The index from tags to serials.
use Rattle.std.specs.Prelude.{ℕ, List, [], ◌==◌, not, filter}
use Rattle.std.specs.Option.{option_map_or}
use Rattle.std.specs.Ordering.{nat_cmp}
use Rattle.std.specs.Cmp.Lexicographic.{slice_cmp}
use Rattle.std.specs.BTreeMap.{get_by}
use Rattle.buffer_state.specs.declared.tags.TagIndex.{TagIndex}

-- the serials that the index has at this tag
abbrev pub serials_at : {A : Type 0} → TagIndex A → List ℕ → List ℕ
serials_at index tag = option_map_or (λ serials. serials.keys)
    (get_by (λ key. slice_cmp nat_cmp tag key.items) index.sets) []

-- the serials without this one
abbrev pub without : ℕ → List ℕ → List ℕ
without serial serials = filter (λ other. not (other == serial)) serials
