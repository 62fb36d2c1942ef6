-- How much of a relay is still to be gone through.
use Rattle.std.proofs.Common.{◌≡◌, ℕ, zero, suc, ◌+◌, ◌<◌, ◌≤◌, List, [], ◌∷◌, ◌++◌, length, map, slice_set, ap, inl, inr, arith}
use Rattle.std.proofs.lemmas.List.{length-append, length-map}
use Rattle.relay_conf.specs.declared.relay.ScopeNo.{ScopeNo}
use Rattle.route_graph.specs.Table.{Table, Rule}
use Rattle.route_graph.specs.Visits.{mark_at}
use Rattle.route_graph.specs.Walks.{AreHopsFrom, taken, let_go}
use Rattle.route_graph.specs.Ways.{IsTakenBy, rules_at}
use Rattle.route_graph.specs.declared.hop.Hop.{Hop}
use Rattle.route_graph.specs.declared.visit.Mark.{Mark}
use Rattle.route_graph.specs.declared.visit.Mark.TheVariants.{New, Open, Done}
use Rattle.route_graph.specs.declared.visit.Step.{Step}
use Rattle.route_graph.specs.declared.visit.Step.TheVariants.{Take, Leave}

-- how many hops the matches have
abbrev pub hop_count : List Rule → ℕ
hop_count [] = 0
hop_count (rule ∷ rules) = length rule.hops + hop_count rules

-- what a scope adds to the weight
abbrev pub own_weight : Mark → List Rule → ℕ
own_weight New rules = hop_count rules + 1
own_weight Open rules = 0
own_weight Done rules = 0

-- the weight of the scopes that are new
abbrev pub weight : List Mark → Table → ℕ
weight [] table = 0
weight (mark ∷ marks) [] = 0
weight (mark ∷ marks) (rules ∷ table) = own_weight mark rules + weight marks table

taker-count : (rules : List Rule) (tag : List ℕ) (taker : Rule) → IsTakenBy rules tag taker → length taker.hops ≤ hop_count rules
taker-count [] tag taker h = absurd h
taker-count (rule ∷ rules) tag taker (inl h) = let same : length taker.hops ≡ length rule.hops = ap (λ (x : Rule). length x.hops) h.1 in omega arith
taker-count (rule ∷ rules) tag taker (inr h) = let less = taker-count rules tag taker h.1 in omega arith

hops-count : (table : Table) (tag : List ℕ) (scope : ℕ) (hops : List Hop) → AreHopsFrom table tag scope hops → length hops ≤ hop_count (rules_at table scope)
hops-count table tag scope hops (taken taker h) = taker-count (rules_at table scope) tag taker h
hops-count table tag scope hops (let_go none) = omega arith

-- a scope that is done weighs nothing
pub weight-done : (marks : List Mark) (table : Table) (scope : ℕ) → weight (slice_set marks scope Done) table ≤ weight marks table
weight-done [] table scope = omega arith
weight-done (mark ∷ marks) [] zero = omega arith
weight-done (mark ∷ marks) [] (suc scope) = omega arith
weight-done (mark ∷ marks) (rules ∷ table) zero = omega arith
weight-done (mark ∷ marks) (rules ∷ table) (suc scope) = let less = weight-done marks table scope in omega arith

-- a new scope that is opened gives its weight
weight-open : (marks : List Mark) (table : Table) (scope : ℕ) → length marks ≡ length table → mark_at marks scope ≡ New → weight (slice_set marks scope Open) table + (hop_count (rules_at table scope) + 1) ≡ weight marks table
weight-open [] table scope sized e = absurd (cc)
weight-open (mark ∷ marks) [] scope sized e = absurd (omega arith)
weight-open (mark ∷ marks) (rules ∷ table) zero sized e = let own : own_weight mark rules ≡ hop_count rules + 1 = ap (λ (x : Mark). own_weight x rules) e in omega arith
weight-open (mark ∷ marks) (rules ∷ table) (suc scope) sized e = let less = weight-open marks table scope (omega arith) e in omega arith

-- a scope that is entered weighs more than the steps that it brings
pub enter-smaller : (marks : List Mark) (table : Table) (tag : List ℕ) (scope : ScopeNo) (hops : List Hop) (steps : List Step) → length marks ≡ length table → mark_at marks scope.0 ≡ New → AreHopsFrom table tag scope.0 hops → length (map Take hops ++ Leave scope ∷ steps) + weight (slice_set marks scope.0 Open) table < suc (length steps) + weight marks table
enter-smaller marks table tag scope hops steps sized e from =
    let count = hops-count table tag scope.0 hops from in
    let less = weight-open marks table scope.0 sized e in
    simp (length-append, length-map) (omega arith)
