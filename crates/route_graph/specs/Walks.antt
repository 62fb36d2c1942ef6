-- The order in which an event reaches its buffers.
use Rattle.std.specs.Prelude.{ℕ, ◌==◌, not, List, [], ◌∷◌, ◌++◌, filter}
use Rattle.relay_conf.specs.declared.output.BufferNo.{BufferNo}
use Rattle.relay_conf.specs.declared.relay.ScopeNo.{ScopeNo}
use Rattle.route_graph.specs.Table.{Table, Rule}
use Rattle.route_graph.specs.Ways.{IsTakenBy, rules_at}
use Rattle.route_graph.specs.declared.hop.Hop.{Hop}
use Rattle.route_graph.specs.declared.hop.Hop.TheVariants.{Buffer, Scope}

-- An event with this tag that comes into the scope is handed to these hops: those of the match that
-- takes it, or none where no match takes it.
pub data AreHopsFrom (table : Table) (tag : List ℕ) (scope : ℕ) : List Hop → Type 0 where
  taken : (taker : Rule) → IsTakenBy (rules_at table scope) tag taker
      → AreHopsFrom table tag scope taker.hops
  let_go : ((taker : Rule) → ¬ IsTakenBy (rules_at table scope) tag taker)
      → AreHopsFrom table tag scope []

-- Going through these hops in order the event reaches these buffers, with repeats: a buffer gives
-- itself, and a scope gives in its place what the hops from there give. It has no end where a chain
-- of relabels comes back.
pub data IsWalk (table : Table) (tag : List ℕ) : List Hop → List ℕ → Type 0 where
  ended : IsWalk table tag [] []
  stored : {buffer : BufferNo} {hops : List Hop} {rest : List ℕ} → IsWalk table tag hops rest
      → IsWalk table tag (Buffer buffer ∷ hops) (buffer.0 ∷ rest)
  relabelled : {target : ScopeNo} {within hops : List Hop} {there rest : List ℕ}
      → AreHopsFrom table tag target.0 within → IsWalk table tag within there
      → IsWalk table tag hops rest → IsWalk table tag (Scope target ∷ hops) (there ++ rest)

-- An event with this tag that comes into the scope reaches these buffers in this order, with
-- repeats.
abbrev pub IsWalkFrom : Table → List ℕ → ℕ → List ℕ → Type 0
IsWalkFrom table tag scope buffers = (hops : List Hop) × AreHopsFrom table tag scope hops
    × IsWalk table tag hops buffers

-- each number of the list once, in the order in which they first stand
abbrev pub firsts : List ℕ → List ℕ
firsts [] = []
firsts (number ∷ numbers) = number ∷ filter (λ other. not (other == number)) (firsts numbers)
