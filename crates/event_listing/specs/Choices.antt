-- Which events are chosen.
use Rattle.std.specs.Prelude.{ℕ, ℤ, ◌≡◌, ◌⊎◌, ◌≤ℤ◌, ◌<ℤ◌, List, [], Option, IfSome}
use Rattle.tag_pattern.specs.Items.{Item}
use Rattle.route_graph.specs.Ways.{HaveTag}

-- The tags that are chosen, those of one of these patterns, or all where there are none; and the
-- times, in nanoseconds since the beginning of 1970: not before the first, and before the last,
-- where there is such a bound.
pub record Chosen : Type 0 where
  pub patterns : List (List Item)
  pub since : Option ℤ
  pub until : Option ℤ

-- the tag is chosen
abbrev pub IsTagChosen : List (List Item) → List ℕ → Type 0
IsTagChosen patterns tag = (patterns ≡ []) ⊎ HaveTag patterns tag

-- the time is chosen
pub record IsTimeChosen (chosen : Chosen) (nanos : ℤ) : Type 0 where
  pub since : IfSome chosen.since (λ first. first ≤ℤ nanos)
  pub until : IfSome chosen.until (λ end. nanos <ℤ end)

-- an event of this tag and this time is chosen
abbrev pub IsChosen : Chosen → List ℕ → ℤ → Type 0
IsChosen chosen tag nanos = IsTagChosen chosen.patterns tag × IsTimeChosen chosen nanos
