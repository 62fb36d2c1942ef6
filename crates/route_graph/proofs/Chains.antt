-- The steps to come, as a chain of open scopes: each hop above a scope that is to be left is one of
-- its own.
use Rattle.std.proofs.Common.{◌≡◌, ℕ, List, [], ◌∷◌, ◌++◌, map, sym, subst, ◌⊎◌, inl, inr, Contains}
use Rattle.relay_conf.specs.declared.relay.ScopeNo.{ScopeNo}
use Rattle.route_graph.specs.Chains.{Chain, here, onward}
use Rattle.route_graph.specs.Table.{Table}
use Rattle.route_graph.specs.Ways.{IsHandedTo, IsRelabelled, IsLoop}
use Rattle.route_graph.specs.declared.hop.Hop.{Hop}
use Rattle.route_graph.specs.declared.hop.Hop.TheVariants.{Scope}
use Rattle.route_graph.specs.declared.visit.Step.{Step}
use Rattle.route_graph.specs.declared.visit.Step.TheVariants.{Take, Leave}
use Rattle.route_graph.proofs.Members.{cons-head, cons-tail}
use Rattle.route_graph.proofs.WalkLaws.{leads-on}

-- The event is handed to this hop from the scope that is to be left next, or the search begins with
-- it.
abbrev pub IsHandedIn : Table → List ℕ → ℕ → List Step → Hop → Type 0
IsHandedIn table tag start [] hop = hop ≡ Scope (record { 0 = start })
IsHandedIn table tag start (Take other ∷ steps) hop = IsHandedIn table tag start steps hop
IsHandedIn table tag start (Leave scope ∷ steps) hop = IsHandedTo table tag scope.0 hop

-- Each hop and each open scope came from the open scope below it.
abbrev pub IsChain : Table → List ℕ → ℕ → List Step → Type 0
IsChain table tag start [] = Unit {0}
IsChain table tag start (Take hop ∷ steps) = IsHandedIn table tag start steps hop × IsChain table tag start steps
IsChain table tag start (Leave scope ∷ steps) = IsHandedIn table tag start steps (Scope scope) × IsChain table tag start steps

-- The scope is to be left.
abbrev pub IsOpenIn : List Step → ℕ → Type 0
IsOpenIn [] scope = ⊥
IsOpenIn (Take hop ∷ steps) scope = IsOpenIn steps scope
IsOpenIn (Leave left ∷ steps) scope = (left.0 ≡ scope) ⊎ IsOpenIn steps scope

-- what is handed on is reached from the start, and from each open scope
chain-leads : (table : Table) (tag : List ℕ) (start : ℕ) (steps : List Step) → IsChain table tag start steps → (target : ScopeNo) → IsHandedIn table tag start steps (Scope target) → Chain (IsRelabelled table tag) start target.0 × ((inner : ℕ) → IsOpenIn steps inner → (middle : ℕ) × Chain (IsRelabelled table tag) inner middle × IsRelabelled table tag middle target.0)
chain-leads table tag start [] chain target e =
    let same : target ≡ record { 0 = start } = cc in
    (subst (λ (x : ScopeNo). Chain (IsRelabelled table tag) start x.0) (sym same) here, λ inner h. absurd h)
chain-leads table tag start (Take hop ∷ steps) chain target h = chain-leads table tag start steps chain.1 target h
chain-leads table tag start (Leave scope ∷ steps) chain target h =
    let below = chain-leads table tag start steps chain.1 scope chain.0 in (
      leads-on below.0 (onward h here),
      λ inner k. elim k [
        | inl e ↦ (scope.0, subst (λ (x : ℕ). Chain (IsRelabelled table tag) x scope.0) e here, h)
        | inr j ↦ let r = below.1 inner j in (scope.0, leads-on r.1 (onward r.2 here), h)
      ],
    )

-- a relabel to an open scope is a loop
pub chain-loop : (table : Table) (tag : List ℕ) (start : ℕ) (steps : List Step) → IsChain table tag start steps → (target : ScopeNo) → IsHandedIn table tag start steps (Scope target) → IsOpenIn steps target.0 → IsLoop table tag start
chain-loop table tag start steps chain target h inner =
    let r = chain-leads table tag start steps chain target h in
    let back = r.1 target.0 inner in
    record { again = back.0; next = target.0; reached = leads-on r.0 back.1; left = back.2; back = back.1 }

handed-entered : (table : Table) (tag : List ℕ) (start : ℕ) (hops : List Hop) (steps : List Step) (hop : Hop) → IsHandedIn table tag start steps hop → IsHandedIn table tag start (map Take hops ++ steps) hop
handed-entered table tag start [] steps hop h = h
handed-entered table tag start (first ∷ hops) steps hop h = handed-entered table tag start hops steps hop h

-- a scope that is entered is on the chain, with its hops above it
pub chain-entered : (table : Table) (tag : List ℕ) (start : ℕ) (hops : List Hop) (scope : ScopeNo) (steps : List Step) → ((hop : Hop) → Contains hops hop → IsHandedTo table tag scope.0 hop) → IsHandedIn table tag start steps (Scope scope) → IsChain table tag start steps → IsChain table tag start (map Take hops ++ Leave scope ∷ steps)
chain-entered table tag start [] scope steps from h chain = (h, chain)
chain-entered table tag start (hop ∷ hops) scope steps from h chain =
    (handed-entered table tag start hops (Leave scope ∷ steps) hop (from hop (cons-head hop hops)), chain-entered table tag start hops scope steps (λ other c. from other (cons-tail hop hops other c)) h chain)

pub open-entered : (hops : List Hop) (steps : List Step) (scope : ℕ) → IsOpenIn steps scope → IsOpenIn (map Take hops ++ steps) scope
open-entered [] steps scope h = h
open-entered (hop ∷ hops) steps scope h = open-entered hops steps scope h
