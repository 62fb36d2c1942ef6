-- What outputs that were put into a match change of a network, and what they leave.
use Rattle.std.proofs.Common.{◌≡◌, ◌≢◌, ◌==◌, ◌⊎◌, inl, inr, ℕ, Bool, true, false, List, slice_get, option_map, Some, refl, sym, ap, subst, string_bytes}
use Rattle.std.specs.Option.{option_and_then}
use Rattle.std.proofs.lemmas.Bool.Decides.{Decides-eqb}
use Rattle.relay_conf.specs.declared.output.Output.{Output}
use Rattle.relay_conf.specs.declared.relay.MatchRule.{MatchRule}
use Rattle.relay_conf.specs.declared.relay.Scope.{Scope}
use Rattle.relay_net.specs.declared.node.Node.{Node}
use Rattle.label_plan.specs.Changes.{ChangesAt, PutsOutputs, PutsInScope, PutsInNode, match_in}
use Rattle.label_plan.specs.Outlines.{match_outline, scope_outline, relay_outline, outline}
use Rattle.label_plan.proofs.Bools.{differ}
use Rattle.label_plan.proofs.Changing.{changed_there, changed_elsewhere, changed_seen}

-- ---- one place, or another

pub same_or_not : (a b : ℕ) → (a ≡ b) ⊎ (a ≢ b)
same_or_not a b = by (a == b) refl
  where
    by : (t : Bool) → (a == b) ≡ t → (a ≡ b) ⊎ (a ≢ b)
    by true e = inl ((Decides-eqb a b).0 e)
    by false e = inr (differ a b e)

-- The one place of a match is the other.
abbrev pub SameSite : (place scope rule : ℕ) → (p s r : ℕ) → Type 0
SameSite place scope rule p s r = (p ≡ place) × (s ≡ scope) × (r ≡ rule)

pub same_site_or_not : (place scope rule p s r : ℕ) → SameSite place scope rule p s r ⊎ ¬ SameSite place scope rule p s r
same_site_or_not place scope rule p s r = elim (same_or_not p place) [
  | inl e ↦ elim (same_or_not s scope) [
    | inl f ↦ elim (same_or_not r rule) [
      | inl g ↦ inl (e, f, g)
      | inr apart ↦ inr (λ h. apart h.2)
    ]
    | inr apart ↦ inr (λ h. apart h.1)
  ]
  | inr apart ↦ inr (λ h. apart h.0)
]

-- ---- what is put, and what stays

module _ {A : Type 0} (outputs : List (Output A)) where
  -- Outputs were put into the match with these places.
  abbrev pub PutsAt : (place scope rule : ℕ) → List (Node A) → List (Node A) → Type 0
  PutsAt place scope rule before after = ChangesAt (PutsInNode scope rule outputs) place before after

  -- the match as it was, and as it is
  pub match_was : (place scope rule : ℕ) (before after : List (Node A)) → (h : PutsAt place scope rule before after) → match_in before place scope rule ≡ Some h.changes.relay.scopes.changes.matches.was
  match_was place scope rule before after h =
      let node_is = h.was_there in let scope_is = h.changes.relay.scopes.was_there in rw (node_is, scope_is) h.changes.relay.scopes.changes.matches.was_there

  pub match_is : (place scope rule : ℕ) (before after : List (Node A)) → (h : PutsAt place scope rule before after) → match_in after place scope rule ≡ Some h.changes.relay.scopes.changes.matches.is
  match_is place scope rule before after h =
      let node_is = changed_there (PutsInNode scope rule outputs) place before after h in
      let scopes = h.changes.relay.scopes in
      let scope_is = changed_there (PutsInScope rule outputs) scope h.was.relay.scopes.items h.is.relay.scopes.items scopes in
      let rule_is = changed_there (PutsOutputs outputs) rule scopes.was.matches.items scopes.is.matches.items scopes.changes.matches in
      rw (node_is, scope_is) rule_is

  -- what was put
  pub put_is : (place scope rule : ℕ) (before after : List (Node A)) → (h : PutsAt place scope rule before after)
      → PutsOutputs outputs h.changes.relay.scopes.changes.matches.was h.changes.relay.scopes.changes.matches.is
  put_is place scope rule before after h = h.changes.relay.scopes.changes.matches.changes

  -- another match stays
  pub others_stay : (place scope rule : ℕ) (before after : List (Node A)) → PutsAt place scope rule before after → (p s r : ℕ) → ¬ SameSite place scope rule p s r → match_in after p s r ≡ match_in before p s r
  others_stay place scope rule before after h p s r apart = elim (same_or_not p place) [
    | inr other ↦ ap (λ o. option_and_then (λ found. slice_get found.matches.items r) (option_and_then (λ relay. slice_get relay.scopes.items s) (option_map (λ node. node.relay) o)))
        (changed_elsewhere (PutsInNode scope rule outputs) place p before after h other)
    | inl e ↦ subst (λ q. match_in after q s r ≡ match_in before q s r) (sym e) (elim (same_or_not s scope) [
      | inr other ↦
          let node_is = changed_there (PutsInNode scope rule outputs) place before after h in
          let node_was = h.was_there in
          let within = changed_elsewhere (PutsInScope rule outputs) scope s h.was.relay.scopes.items h.is.relay.scopes.items h.changes.relay.scopes other in
          rw (node_is, node_was) (ap (option_and_then (λ found. slice_get found.matches.items r)) within)
      | inl f ↦ subst (λ t. match_in after place t r ≡ match_in before place t r) (sym f) (
          let node_is = changed_there (PutsInNode scope rule outputs) place before after h in
          let node_was = h.was_there in
          let scopes = h.changes.relay.scopes in
          let scope_is = changed_there (PutsInScope rule outputs) scope h.was.relay.scopes.items h.is.relay.scopes.items scopes in
          let scope_was = scopes.was_there in
          let within = changed_elsewhere (PutsOutputs outputs) rule r scopes.was.matches.items scopes.is.matches.items scopes.changes.matches (λ g. apart (e, f, g)) in
          rw (node_is, node_was, scope_is, scope_was) within)
    ])
  ]

  -- the outline stays
  match_same : (was is : MatchRule A) → PutsOutputs outputs was is → match_outline is ≡ match_outline was
  match_same was is h = λ i. record { patterns = (h.patterns_are i).items; line = h.line_is i }

  scope_same : (rule : ℕ) (was is : Scope A) → PutsInScope rule outputs was is → scope_outline is ≡ scope_outline was
  scope_same rule was is h = λ i. record { name = string_bytes (h.name_is i); matches = changed_seen (PutsOutputs outputs) match_outline rule was.matches.items is.matches.items match_same h.matches i }

  node_same : (scope rule : ℕ) (was is : Node A) → PutsInNode scope rule outputs was is → relay_outline is ≡ relay_outline was
  node_same scope rule was is h = λ i. record {
    number = h.number_is i;
    host = string_bytes (h.host_is i);
    sources = (h.relay.sources_are i).items;
    scopes = changed_seen (PutsInScope rule outputs) scope_outline scope was.relay.scopes.items is.relay.scopes.items (scope_same rule) h.relay.scopes i;
  }

  pub outline_stays : (place scope rule : ℕ) (before after : List (Node A)) → PutsAt place scope rule before after → outline after ≡ outline before
  outline_stays place scope rule before after h = changed_seen (PutsInNode scope rule outputs) relay_outline place before after (node_same scope rule) h
