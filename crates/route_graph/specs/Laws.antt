-- What holds of the definitions alone.
use Rattle.std.specs.Prelude.{◌≡◌, ℕ, List, Contains, ◌↔◌}
use Rattle.route_graph.specs.Table.{Table, Rule}
use Rattle.route_graph.specs.Walks.{IsWalkFrom}
use Rattle.route_graph.specs.Ways.{IsTakenBy, IsLeaf, IsLoop}

-- Two matches that take an event are one.
abbrev pub TakerIsUnique : Type 0
TakerIsUnique = (rules : List Rule) (tag : List ℕ) (taker other : Rule) → IsTakenBy rules tag taker
    → IsTakenBy rules tag other → taker ≡ other

-- A walk reaches the leaves, and nothing else.
abbrev pub WalkReachesLeaves : Type 0
WalkReachesLeaves = (table : Table) (tag : List ℕ) (scope : ℕ) (walk : List ℕ)
    → IsWalkFrom table tag scope walk → (buffer : ℕ) → Contains walk buffer
    ↔ IsLeaf table tag scope buffer

-- Where there is a walk, there is no loop.
abbrev pub WalkIsNoLoop : Type 0
WalkIsNoLoop = (table : Table) (tag : List ℕ) (scope : ℕ) (walk : List ℕ)
    → IsWalkFrom table tag scope walk → ¬ IsLoop table tag scope

-- An event has one walk at most.
abbrev pub WalkIsUnique : Type 0
WalkIsUnique = (table : Table) (tag : List ℕ) (scope : ℕ) (walk other : List ℕ)
    → IsWalkFrom table tag scope walk → IsWalkFrom table tag scope other → walk ≡ other
