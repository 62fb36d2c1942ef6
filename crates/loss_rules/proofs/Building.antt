-- How the graph of a relay grows with the matches that are gone through.
use Rattle.std.proofs.Common.{◌≡◌, ◌∙◌, ℕ, ◌+◌, ◌-◌, ◌<◌, ◌≤◌, ◌↔◌, Option, Some, None, List, [], ◌∷◌, ◌++◌, length, get_or, take, slice_get, zero, suc, inl, inr, arith, subst, sym, ap, refl, Contains}
use Rattle.std.specs.List.{filter_map}
use Rattle.std.specs.Option.{option_map_or, option_and_then}
use Rattle.std.proofs.lemmas.Bool.{cases_eq, cases_lt}
use Rattle.std.proofs.lemmas.List.{length-append, get_or_past, get_or_append_left, get_or-append_right, append_assoc}
use Rattle.std.proofs.lemmas.Option.{slice_get_within, option_and_then_some}
use Rattle.std.proofs.lemmas.List.Elements.{Contains-append_left, Contains-append_right, Contains-append_cases, filter_map-append}
use Rattle.relay_conf.specs.declared.output.Output.{Output}
use Rattle.relay_conf.specs.declared.output.Output.TheVariants as output
use Rattle.relay_conf.specs.declared.relay.MatchRule.{MatchRule}
use Rattle.relay_conf.specs.declared.relay.Relay.{Relay}
use Rattle.relay_conf.specs.declared.relay.Scope.{Scope}
use Rattle.relay_net.proofs.Pairing.{taken_more}
use Rattle.relay_net.specs.Network.{Network, relay_at}
use Rattle.loss_rules.specs.Labels.{IsReached}
use Rattle.loss_rules.specs.Sites.{rule_at, matches_at, output_in_rule, line_of, RelabelsTo, scope_count_of}
use Rattle.loss_rules.specs.declared.label.Reach.{Reach}
use Rattle.loss_rules.specs.Graphs.{relabel_of, relabels_at, HasRelabel, IsGraphOf}
use Rattle.loss_rules.specs.Rules.{HasReachedRelabel}
use Rattle.loss_rules.specs.declared.relabel.Relabel.{Relabel}
use Rattle.route_graph.proofs.Members.{cons-cases, cons-head, cons-tail, nil-none}
use Rattle.loss_rules.proofs.Matches.{rule_listed}

-- ---- outputs

-- the output with this place in a list is a relabel to that target in that line
abbrev IsRelabelAmong : {A : Type 0} → List (Output A) → ℕ → ℕ → Type 0
IsRelabelAmong {A} outputs target line = (place : ℕ) × (found : Output A) × (slice_get outputs place ≡ Some found) × RelabelsTo found target × (line_of found ≡ line)

among-later : {A : Type 0} (first : Output A) (outputs : List (Output A)) (target line : ℕ) → IsRelabelAmong outputs target line → IsRelabelAmong (first ∷ outputs) target line
among-later first outputs target line (place, found, at, rel, same) = (suc place, found, at, rel, same)

-- each relabel among the outputs is an output
pub relabels-outputs : {A : Type 0} (outputs : List (Output A)) (target line : ℕ) → Contains (filter_map relabel_of outputs) (record { target = target; line = line }) → IsRelabelAmong outputs target line
relabels-outputs [] target line c = absurd (nil-none _ c)
relabels-outputs (output.Null l ∷ outputs) target line c = among-later (output.Null l) outputs target line (relabels-outputs outputs target line c)
relabels-outputs (output.Relabel t l ∷ outputs) target line c =
    let first : Relabel = record { target = t.0; line = l } in
    elim (cons-cases first (filter_map relabel_of outputs) (record { target = target; line = line }) c) [
      | inl e ↦ (0, output.Relabel t l, refl, ap (λ (x : Relabel). x.target) e, ap (λ (x : Relabel). x.line) e)
      | inr k ↦ among-later (output.Relabel t l) outputs target line (relabels-outputs outputs target line k)
    ]
relabels-outputs (output.Forward s l ∷ outputs) target line c = among-later (output.Forward s l) outputs target line (relabels-outputs outputs target line c)
relabels-outputs (output.File s l ∷ outputs) target line c = among-later (output.File s l) outputs target line (relabels-outputs outputs target line c)

-- a relabel is the one that its output is
relabel-is : {A : Type 0} (found : Output A) (target line : ℕ) → RelabelsTo found target → line_of found ≡ line → relabel_of found ≡ Some (record { target = target; line = line })
relabel-is (output.Null l) target line rel same = absurd rel
relabel-is (output.Relabel t l) target line rel same = ap (λ (x : ℕ). Some (record { target = x; line = l })) rel ∙ ap (λ (x : ℕ). Some (record { target = target; line = x })) same
relabel-is (output.Forward s l) target line rel same = absurd rel
relabel-is (output.File s l) target line rel same = absurd rel

kept-later : {A : Type 0} (first : Output A) (outputs : List (Output A)) (relabel : Relabel) → Contains (filter_map relabel_of outputs) relabel → Contains (filter_map relabel_of (first ∷ outputs)) relabel
kept-later (output.Null l) outputs relabel c = c
kept-later (output.Relabel t l) outputs relabel c = cons-tail (record { target = t.0; line = l }) (filter_map relabel_of outputs) relabel c
kept-later (output.Forward s l) outputs relabel c = c
kept-later (output.File s l) outputs relabel c = c

-- each output that is a relabel is kept
pub outputs-relabels : {A : Type 0} (outputs : List (Output A)) (place : ℕ) (found : Output A) (relabel : Relabel) → slice_get outputs place ≡ Some found → relabel_of found ≡ Some relabel → Contains (filter_map relabel_of outputs) relabel
outputs-relabels [] place found relabel at is = absurd (cc)
outputs-relabels (first ∷ outputs) zero found relabel at is =
    let same : first ≡ found = cc in
    let e : relabel_of first ≡ Some relabel = ap relabel_of same ∙ is in
    rw e (cons-head relabel (filter_map relabel_of outputs))
outputs-relabels (first ∷ outputs) (suc place) found relabel at is = kept-later first outputs relabel (outputs-relabels outputs place found relabel at is)

-- one output more
pub relabels-more : {A : Type 0} (outputs : List (Output A)) (count : ℕ) (output : Output A) (before held more : List Relabel) → count < length outputs → output ≡ get_or outputs count output → held ≡ before ++ filter_map relabel_of (take count outputs) → more ≡ held ++ filter_map relabel_of (output ∷ []) → more ≡ before ++ filter_map relabel_of (take (count + 1) outputs)
relabels-more {A} outputs count output before held more less is old new =
    let cut : take (count + 1) outputs ≡ take count outputs ++ output ∷ [] = taken_more outputs count output less is in
    let all : filter_map relabel_of (take (count + 1) outputs) ≡ filter_map relabel_of (take count outputs) ++ filter_map relabel_of (output ∷ []) = ap (filter_map relabel_of) cut ∙ filter_map-append relabel_of (take count outputs) (output ∷ []) in
    new ∙ ap (λ (x : List Relabel). x ++ filter_map relabel_of (output ∷ [])) old ∙ append_assoc before (filter_map relabel_of (take count outputs)) (filter_map relabel_of (output ∷ [])) ∙ ap (λ (x : List Relabel). before ++ x) (sym all)

-- ---- places

within-scopes : {A : Type 0} (scopes : List (Scope A)) (scope rule output : ℕ) (found : Output A) → option_and_then (λ r. slice_get r.outputs.items output) (option_and_then (λ s. slice_get s.matches.items rule) (slice_get scopes scope)) ≡ Some found → scope < length scopes
within-scopes [] scope rule output found at = absurd (cc)
within-scopes (first ∷ scopes) zero rule output found at = omega arith
within-scopes (first ∷ scopes) (suc scope) rule output found at = let less = within-scopes scopes scope rule output found at in omega arith

within-relay : {A : Type 0} (relay : Option (Relay A)) (scope rule output : ℕ) (found : Output A) → option_and_then (λ r. slice_get r.outputs.items output) (option_and_then (λ s. slice_get s.matches.items rule) (option_and_then (λ r. slice_get r.scopes.items scope) relay)) ≡ Some found → scope < option_map_or (λ r. length r.scopes.items) relay 0
within-relay None scope rule output found at = absurd (cc)
within-relay (Some relay) scope rule output found at = within-scopes relay.scopes.items scope rule output found at

-- an output that is there stands in a scope that is there
scope-within : {A : Type 0} (net : Network A) (place scope rule output : ℕ) (found : Output A) → output_in_rule net place scope rule output ≡ Some found → scope < scope_count_of net place
scope-within net place scope rule output found at = within-relay (relay_at net place) scope rule output found at

-- ---- the graph

-- In this line of the relay one of the first matches of the scope, if it is reached, has a relabel
-- to that target.
abbrev pub HasRelabelBelow : {A : Type 0} → Network A → List (Reach A) → ℕ → ℕ → ℕ → ℕ → ℕ → Type 0
HasRelabelBelow {A} net reaches place scope count target line = (rule output : ℕ) × (found : Output A) × (rule < count) × (output_in_rule net place scope rule output ≡ Some found)
    × IsReached reaches place scope rule × RelabelsTo found target × (line_of found ≡ line)

module _ {A : Type 0} (net : Network A) (reaches : List (Reach A)) (place scope : ℕ) where
  abbrev pub AreBelow : ℕ → List Relabel → Type 0
  AreBelow count relabels = (target line : ℕ) → Contains relabels (record { target = target; line = line }) ↔ HasRelabelBelow net reaches place scope count target line

  pub below-none : AreBelow 0 []
  below-none target line = (λ c. absurd (nil-none _ c), λ b. absurd (let less : b.0 < 0 = b.3 in omega arith))

  listed : (count output : ℕ) (taker : MatchRule A) → slice_get (matches_at net place scope) count ≡ Some taker → output_in_rule net place scope count output ≡ slice_get taker.outputs.items output
  listed count output taker is = ap (option_and_then (λ found. slice_get found.outputs.items output)) (rule_listed net place scope count ∙ is)

  -- one more match, which is reached
  pub below-more : (count : ℕ) (taker : MatchRule A) (relabels more : List Relabel) → slice_get (matches_at net place scope) count ≡ Some taker → IsReached reaches place scope count
      → more ≡ relabels ++ filter_map relabel_of taker.outputs.items → AreBelow count relabels → AreBelow (count + 1) more
  below-more count taker relabels more is reached grown below target line = (
    λ c. elim (Contains-append_cases relabels (filter_map relabel_of taker.outputs.items) _ (subst (λ (x : List Relabel). Contains x (record { target = target; line = line })) grown c)) [
      | inl k ↦ (let b = (below target line).0 k in (b.0, b.1, b.2, omega (arith, b.3), b.4, b.5, b.6, b.7))
      | inr k ↦ (let r = relabels-outputs taker.outputs.items target line k in (count, r.0, r.1, omega arith, listed count r.0 taker is ∙ r.2, reached, r.3, r.4))
    ],
    λ b. subst (λ (x : List Relabel). Contains x (record { target = target; line = line })) (sym grown) (elim (cases_eq b.0 count) [
      | inr apart ↦ Contains-append_left relabels (filter_map relabel_of taker.outputs.items) _ ((below target line).1 (b.0, b.1, b.2, omega (arith, apart, b.3), b.4, b.5, b.6, b.7))
      | inl same ↦ (
          let at : output_in_rule net place scope count b.1 ≡ Some b.2 = subst (λ (x : ℕ). output_in_rule net place scope x b.1 ≡ Some b.2) same b.4 in
          Contains-append_right relabels (filter_map relabel_of taker.outputs.items) _ (outputs-relabels taker.outputs.items b.1 b.2 (record { target = target; line = line }) (sym (listed count b.1 taker is) ∙ at) (relabel-is b.2 target line b.6 b.7)))
    ]),
  )

  -- one more match, which isn't
  pub below-apart : (count : ℕ) (relabels : List Relabel) → ¬ IsReached reaches place scope count → AreBelow count relabels → AreBelow (count + 1) relabels
  below-apart count relabels not below target line = (
    λ c. (let b = (below target line).0 c in (b.0, b.1, b.2, omega (arith, b.3), b.4, b.5, b.6, b.7)),
    λ b. elim (cases_eq b.0 count) [
      | inr apart ↦ (below target line).1 (b.0, b.1, b.2, omega (arith, apart, b.3), b.4, b.5, b.6, b.7)
      | inl same ↦ absurd (not (subst (λ (x : ℕ). IsReached reaches place scope x) same b.5))
    ],
  )

  match-within : (rule output : ℕ) (found : Output A) → output_in_rule net place scope rule output ≡ Some found → rule < length (matches_at net place scope)
  match-within rule output found at =
      option_and_then_some (λ m. slice_get m.outputs.items output) (rule_at net place scope rule) found at (λ taker there o.
      slice_get_within (matches_at net place scope) rule taker (sym (rule_listed net place scope rule) ∙ there))

  -- all matches were gone through
  pub below-all : (count : ℕ) (relabels : List Relabel) → length (matches_at net place scope) ≤ count → AreBelow count relabels
      → (target line : ℕ) → Contains relabels (record { target = target; line = line }) ↔ HasReachedRelabel net reaches place scope target line
  below-all count relabels end below target line = (
    λ c. (let b = (below target line).0 c in (b.0, b.1, b.2, b.4, b.5, b.6, b.7)),
    λ r. (below target line).1 (r.0, r.1, r.2, omega (arith, end, match-within r.0 r.1 r.2 r.3), r.3, r.4, r.5, r.6),
  )

module _ {A : Type 0} (net : Network A) (reaches : List (Reach A)) (place : ℕ) where
  -- The graph has a list for each of the first scopes, so many of them: the relabels of its reached
  -- matches.
  pub record IsBuilt (count : ℕ) (graph : List (List Relabel)) : Type 0 where
    pub sized : length graph ≡ count
    pub is : (scope target line : ℕ) → scope < count → HasRelabel graph scope target line ↔ HasReachedRelabel net reaches place scope target line

  pub built-none : IsBuilt 0 []
  built-none = record { sized = refl; is = λ scope target line less. absurd (omega (arith, less)) }

  -- one more scope
  pub built-more : (count : ℕ) (graph : List (List Relabel)) (relabels : List Relabel) → ((target line : ℕ) → Contains relabels (record { target = target; line = line }) ↔ HasReachedRelabel net reaches place count target line)
      → IsBuilt count graph → IsBuilt (count + 1) (graph ++ relabels ∷ [])
  built-more count graph relabels here built = record {
    sized = let long = length-append graph (relabels ∷ []) in omega (arith, long, built.sized);
    is = λ scope target line less. elim (cases_eq scope count) [
      | inl same ↦ (
          let none : scope - scope ≡ 0 = omega arith in
          let e : relabels_at (graph ++ relabels ∷ []) scope ≡ relabels = get_or-append_right graph (relabels ∷ []) scope scope [] (built.sized ∙ sym same) (omega arith) ∙ ap (λ (n : ℕ). get_or (relabels ∷ []) n []) none in
          subst (λ (x : ℕ). Contains (relabels_at (graph ++ relabels ∷ []) scope) (record { target = target; line = line }) ↔ HasReachedRelabel net reaches place x target line) (sym same)
          (subst (λ (x : List Relabel). Contains x (record { target = target; line = line }) ↔ HasReachedRelabel net reaches place count target line) (sym e) (here target line)))
      | inr apart ↦ (
          let e : relabels_at (graph ++ relabels ∷ []) scope ≡ relabels_at graph scope = get_or_append_left graph (relabels ∷ []) [] scope (omega (arith, less, apart, built.sized)) in
          subst (λ (x : List Relabel). Contains x (record { target = target; line = line }) ↔ HasReachedRelabel net reaches place scope target line) (sym e) (built.is scope target line (omega (arith, less, apart))))
    ];
  }

  -- all scopes were gone through
  pub built-all : (count : ℕ) (graph : List (List Relabel)) → count ≡ scope_count_of net place → IsBuilt count graph → IsGraphOf net reaches place graph
  built-all count graph all built scope target line = elim (cases_lt scope count) [
    | inl less ↦ built.is scope target line less
    | inr past ↦ (
        let e : relabels_at graph scope ≡ [] = get_or_past graph scope [] (omega (arith, past, built.sized)) in (
          λ has. absurd (nil-none _ (subst (λ (x : List Relabel). Contains x (record { target = target; line = line })) e has)),
          λ r. absurd (let less = scope-within net place scope r.0 r.1 r.2 r.3 in omega (arith, less, past, all)),
        ))
  ]
