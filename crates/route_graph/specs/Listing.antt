-- What the way of an event is.
use Rattle.std.specs.Prelude.{◌≡◌, ◌≢◌, ⊤, ℕ, List, map, Contains, AllPairs, ◌↔◌}
use Rattle.relay_conf.specs.declared.output.BufferNo.{BufferNo}
use Rattle.route_graph.specs.Table.{Table}
use Rattle.route_graph.specs.Ways.{IsLeaf, IsLoop}
use Rattle.route_graph.specs.Walks.{IsWalkFrom, firsts}
use Rattle.route_graph.specs.declared.way.Way.{Way}
use Rattle.route_graph.specs.declared.way.Way.TheVariants.{Leaves, Loop}

-- the numbers of these buffers
abbrev pub numbers_of : List BufferNo → List ℕ
numbers_of buffers = map (λ buffer. buffer.0) buffers

-- These are the buffers that the event reaches, each once, in the order first reached.
abbrev pub AreFirstReached : Table → List ℕ → ℕ → List ℕ → Type 0
AreFirstReached table tag scope buffers = (walk : List ℕ) × IsWalkFrom table tag scope walk
    × (buffers ≡ firsts walk)

-- This is the way of an event with this tag that comes into the scope: a loop, or else the buffers
-- that it reaches.
abbrev pub IsWay : {A : Type 0} → Table → List ℕ → ℕ → Way A → Type 0
IsWay table tag scope (Leaves buffers) = (¬ IsLoop table tag scope)
    × AreFirstReached table tag scope (numbers_of buffers.items)
IsWay table tag scope Loop = IsLoop table tag scope

-- If the way is no loop, these are its leaves, the buffers in some order.
abbrev pub HasLeaves : {A : Type 0} → Table → List ℕ → ℕ → Way A → Type 0
HasLeaves table tag scope (Leaves buffers) = (buffer : ℕ)
    → Contains (numbers_of buffers.items) buffer ↔ IsLeaf table tag scope buffer
HasLeaves table tag scope Loop = ⊤

-- If the way is no loop, no buffer stands in its list twice.
abbrev pub HasEachOnce : {A : Type 0} → Way A → Type 0
HasEachOnce (Leaves buffers) = AllPairs (λ x y. x ≢ y) (numbers_of buffers.items)
HasEachOnce Loop = ⊤
