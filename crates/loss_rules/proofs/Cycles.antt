-- Relabels on cycles, as scopes and relays are gone through.
use Rattle.std.proofs.Common.{◌≡◌, ℕ, zero, suc, ◌+◌, ◌<◌, ◌≤◌, Some, List, [], ◌∷◌, ◌++◌, length, slice_get, inl, inr, arith, subst, sym, ap, refl, Contains}
use Rattle.std.proofs.lemmas.Bool.{cases_eq}
use Rattle.std.proofs.lemmas.List.Elements.{Contains-append_left, Contains-push, Contains-push_cases}
use Rattle.std.specs.Option.{option_and_then, option_map}
use Rattle.relay_conf.specs.declared.output.Output.{Output}
use Rattle.relay_net.specs.Network.{Network}
use Rattle.relay_net.specs.declared.node.Node.{Node}
use Rattle.loss_rules.specs.Everywhere.{AreLines, BreaksAtOutput}
use Rattle.loss_rules.specs.Rules.{IsOnNoCycle, NoRelabelCycle}
use Rattle.loss_rules.specs.Sites.{line_of}
use Rattle.loss_rules.specs.declared.label.Reach.{Reach}
use Rattle.loss_rules.specs.Lines.{AddsLines}
use Rattle.loss_rules.specs.Graphs.{Leads, IsGraphOf, IsOnCycle, IsOnCycleFrom}
use Rattle.loss_rules.specs.declared.relabel.Relabel.{Relabel}
use Rattle.loss_rules.proofs.Chains.{leads-within, goes-leads, leads-goes}
use Rattle.loss_rules.proofs.Lines.{added-none, added-one, added-joined, added-same, contains_or_not, nothing_in}
use Rattle.route_graph.specs.Chains.{Chain}
use Rattle.route_graph.proofs.Members.{nil-none}

-- ---- the relabels of one scope

-- In this line there is one of these relabels, from whose target a chain leads back to the scope.
abbrev pub IsAmong : List (List Relabel) → ℕ → List Relabel → ℕ → Type 0
IsAmong graph scope relabels line = (target : ℕ) × Contains relabels (record { target = target; line = line }) × Chain (Leads graph) target scope

pub among-none : (graph : List (List Relabel)) (scope : ℕ) (xs : List ℕ) → AddsLines (IsAmong graph scope []) xs xs
among-none graph scope xs = added-none (IsAmong graph scope []) xs (λ line h. nil-none (record { target = h.0; line = line }) h.1)

pub among-back : (graph : List (List Relabel)) (scope : ℕ) (relabels : List Relabel) (relabel : Relabel) (xs ys : List ℕ) → Chain (Leads graph) relabel.target scope → AddsLines (IsAmong graph scope relabels) xs ys → AddsLines (IsAmong graph scope (relabels ++ relabel ∷ [])) xs (ys ++ relabel.line ∷ [])
among-back graph scope relabels relabel xs ys leads is =
    added-joined (IsAmong graph scope relabels) (λ line. relabel.line ≡ line) (IsAmong graph scope (relabels ++ relabel ∷ []))
    (λ line h. elim (Contains-push_cases relabels relabel (record { target = h.0; line = line }) h.1) [
      | inl c ↦ inl (h.0, c, h.2)
      | inr e ↦ inr (ap (λ (x : Relabel). x.line) e)
    ])
    (λ line h. (h.0, Contains-append_left relabels (relabel ∷ []) (record { target = h.0; line = line }) h.1, h.2))
    (λ line e. (relabel.target, subst (λ (x : ℕ). Contains (relabels ++ relabel ∷ []) (record { target = relabel.target; line = x })) e (Contains-push relabels relabel), leads))
    xs ys (ys ++ relabel.line ∷ []) is (added-one relabel.line ys)

pub among-gone : (graph : List (List Relabel)) (scope : ℕ) (relabels : List Relabel) (relabel : Relabel) (xs ys : List ℕ) → (Chain (Leads graph) relabel.target scope → ⊥) → AddsLines (IsAmong graph scope relabels) xs ys → AddsLines (IsAmong graph scope (relabels ++ relabel ∷ [])) xs ys
among-gone graph scope relabels relabel xs ys gone is =
    added-same (IsAmong graph scope relabels) (IsAmong graph scope (relabels ++ relabel ∷ []))
    (λ line h. elim (Contains-push_cases relabels relabel (record { target = h.0; line = line }) h.1) [
      | inl c ↦ (h.0, c, h.2)
      | inr e ↦ absurd (gone (subst (λ (x : ℕ). Chain (Leads graph) x scope) (sym (ap (λ (x : Relabel). x.target) e)) h.2))
    ])
    (λ line h. (h.0, Contains-append_left relabels (relabel ∷ []) (record { target = h.0; line = line }) h.1, h.2))
    xs ys is

-- ---- the scopes of a relay

-- In this line one of the first scopes, so many of them, has a relabel from whose target a chain
-- leads back.
abbrev pub IsBefore : List (List Relabel) → ℕ → ℕ → Type 0
IsBefore graph count line = (scope : ℕ) × (scope < count) × IsOnCycleFrom graph scope line

pub before-none : (graph : List (List Relabel)) (xs : List ℕ) → AddsLines (IsBefore graph 0) xs xs
before-none graph xs = added-none (IsBefore graph 0) xs (λ line h. absurd (let less : h.0 < 0 = h.1 in omega arith))

pub before-more : (graph : List (List Relabel)) (scope : ℕ) (xs ys zs : List ℕ) → AddsLines (IsBefore graph scope) xs ys → AddsLines (IsOnCycleFrom graph scope) ys zs → AddsLines (IsBefore graph (scope + 1)) xs zs
before-more graph scope xs ys zs p q =
    added-joined (IsBefore graph scope) (IsOnCycleFrom graph scope) (IsBefore graph (scope + 1))
    (λ line h. let less : h.0 < scope + 1 = h.1 in elim (cases_eq h.0 scope) [
      | inl same ↦ inr (subst (λ (x : ℕ). IsOnCycleFrom graph x line) same h.2)
      | inr apart ↦ inl (h.0, omega arith, h.2)
    ])
    (λ line h. let less : h.0 < scope = h.1 in (h.0, omega arith, h.2))
    (λ line h. (scope, omega arith, h))
    xs ys zs p q

pub before-all : (graph : List (List Relabel)) (count : ℕ) (xs ys : List ℕ) → count ≡ length graph → AddsLines (IsBefore graph count) xs ys → AddsLines (IsOnCycle graph) xs ys
before-all graph count xs ys all =
    added-same (IsBefore graph count) (IsOnCycle graph)
    (λ line h. let less = leads-within graph h.0 h.1.0 line h.1.1 in (h.0, omega arith, h.1))
    (λ line h. (h.0, h.2))
    xs ys

-- ---- the relays of a network

-- In this line of the relay at this place there is a relabel on a cycle.
abbrev pub IsBroken : {A : Type 0} → Network A → List (Reach A) → ℕ → ℕ → Type 0
IsBroken net reaches = BreaksAtOutput net (λ place scope rule output relabel. IsOnNoCycle net reaches place scope rule relabel)

broken-graph : {A : Type 0} (net : Network A) (reaches : List (Reach A)) (place : ℕ) (graph : List (List Relabel)) → IsGraphOf net reaches place graph → (line : ℕ) → (IsOnCycle graph line → ⊥) → IsBroken net reaches place line → ⊥
broken-graph net reaches place graph is line none ((scope, rule, output, found), (at, same), broken) =
    broken (λ reached target rel goes. none (scope, (target, (is scope target line).1 (rule, output, found, at, reached, rel, same), goes-leads net reaches place graph is goes)))

graph-broken : {A : Type 0} (net : Network A) (reaches : List (Reach A)) (place : ℕ) (graph : List (List Relabel)) → IsGraphOf net reaches place graph → (line : ℕ) → IsOnCycle graph line → IsBroken net reaches place line
graph-broken net reaches place graph is line (scope, (target, has, leads)) =
    let r = (is scope target line).0 has in
    ((scope, r.0, r.1, r.2), (r.3, r.6), λ kept. kept r.4 target r.5 (leads-goes net reaches place graph is leads))

-- Nothing is broken in the first relays, so many of them.
abbrev pub IsKeptBefore : {A : Type 0} → Network A → List (Reach A) → ℕ → Type 0
IsKeptBefore net reaches count = (place line : ℕ) → place < count → ¬ IsBroken net reaches place line

pub kept-none : {A : Type 0} (net : Network A) (reaches : List (Reach A)) → IsKeptBefore net reaches 0
kept-none net reaches place line less = absurd (omega arith)

-- the lines of the relay in which it is broken are those on cycles of its graph
pub cycle-lines : {A : Type 0} (net : Network A) (reaches : List (Reach A)) (place : ℕ) (graph : List (List Relabel)) (lines : List ℕ) → IsGraphOf net reaches place graph → AreLines (IsOnCycle graph) lines → AreLines (IsBroken net reaches place) lines
cycle-lines net reaches place graph lines is are = record {
  rise = are.rise;
  exact = λ line. (
    λ c. graph-broken net reaches place graph is line ((are.exact line).0 c),
    λ broken. elim (contains_or_not lines line) [
      | inl c ↦ c
      | inr not ↦ absurd (broken-graph net reaches place graph is line (λ on. not ((are.exact line).1 on)) broken)
    ],
  );
}

pub kept-more : {A : Type 0} (net : Network A) (reaches : List (Reach A)) (count : ℕ) (lines : List ℕ) → AreLines (IsBroken net reaches count) lines → lines ≡ [] → IsKeptBefore net reaches count → IsKeptBefore net reaches (count + 1)
kept-more net reaches count lines are none before place line less broken = elim (cases_eq place count) [
  | inl same ↦ nothing_in line (subst (λ (xs : List ℕ). Contains xs line) none ((are.exact line).1 (subst (λ (x : ℕ). IsBroken net reaches x line) same broken)))
  | inr apart ↦ before place line (omega arith) broken
]

within : {A : Type 0} (nodes : List (Node A)) (place scope rule output : ℕ) (found : Output A) → option_and_then (λ r. slice_get r.outputs.items output) (option_and_then (λ s. slice_get s.matches.items rule) (option_and_then (λ r. slice_get r.scopes.items scope) (option_map (λ node. node.relay) (slice_get nodes place)))) ≡ Some found → place < length nodes
within [] place scope rule output found at = absurd (cc)
within (node ∷ nodes) zero scope rule output found at = omega arith
within (node ∷ nodes) (suc place) scope rule output found at = let less = within nodes place scope rule output found at in omega arith

-- no relay is left
pub kept-all : {A : Type 0} (net : Network A) (reaches : List (Reach A)) (count : ℕ) → length net.relays ≤ count → IsKeptBefore net reaches count → NoRelabelCycle net reaches
kept-all net reaches count all before place scope rule output found at reached target rel goes =
    before place (line_of found) (omega (arith, within net.relays place scope rule output found at)) ((scope, rule, output, found), (at, refl), λ kept. kept reached target rel goes)
