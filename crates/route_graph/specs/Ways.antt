-- Where an event goes in a relay (Fluentd, "Config: Match Patterns", order of matches; "out_copy";
-- "out_relabel").
use Rattle.std.specs.Prelude.{◌≡◌, ℕ, List, [], ◌∷◌, Any, Contains, ◌⊎◌, slice_get, unwrap_or}
use Rattle.tag_pattern.specs.Items.{Item}
use Rattle.tag_pattern.specs.Patterns.{IsTagOf}
use Rattle.route_graph.specs.Chains.{Chain}
use Rattle.route_graph.specs.Table.{Table, Rule}
use Rattle.route_graph.specs.declared.hop.Hop.{Hop}
use Rattle.route_graph.specs.declared.hop.Hop.TheVariants.{Buffer, Scope}

-- one of the patterns has the tag
abbrev pub HaveTag : List (List Item) → List ℕ → Type 0
HaveTag patterns tag = Any (λ pattern. IsTagOf pattern tag) patterns

-- This is the first of the matches one of whose patterns has the tag.
abbrev pub IsTakenBy : List Rule → List ℕ → Rule → Type 0
IsTakenBy [] tag taker = ⊥
IsTakenBy (rule ∷ rules) tag taker = (HaveTag rule.patterns tag × (taker ≡ rule))
    ⊎ ((¬ HaveTag rule.patterns tag) × IsTakenBy rules tag taker)

-- the matches of this scope; a scope that isn't there has none
abbrev pub rules_at : Table → ℕ → List Rule
rules_at table scope = unwrap_or (slice_get table scope) []

-- An event with this tag that comes into the scope is handed to this hop, among others if it is
-- copied.
abbrev pub IsHandedTo : Table → List ℕ → ℕ → Hop → Type 0
IsHandedTo table tag scope hop = (taker : Rule) × IsTakenBy (rules_at table scope) tag taker
    × Contains taker.hops hop

-- Such an event goes on from the scope to this other one.
abbrev pub IsRelabelled : Table → List ℕ → ℕ → ℕ → Type 0
IsRelabelled table tag scope target = IsHandedTo table tag scope (Scope (record { 0 = target }))

-- Such an event reaches this buffer: the match that takes it has it, or a scope that it goes on to
-- leads there.
pub data IsLeaf (table : Table) (tag : List ℕ) : ℕ → ℕ → Type 0 where
  own : {scope buffer : ℕ} → IsHandedTo table tag scope (Buffer (record { 0 = buffer }))
      → IsLeaf table tag scope buffer
  further : {scope target buffer : ℕ} → IsRelabelled table tag scope target
      → IsLeaf table tag target buffer → IsLeaf table tag scope buffer

-- The way of such an event is a loop: a chain of relabels comes back to a scope on that chain.
pub record IsLoop (table : Table) (tag : List ℕ) (scope : ℕ) : Type 0 where
  pub again : ℕ
  pub next : ℕ
  pub reached : Chain (IsRelabelled table tag) scope again
  pub left : IsRelabelled table tag again next
  pub back : Chain (IsRelabelled table tag) next again
