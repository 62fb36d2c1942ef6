-- The places that are searched for are those of the outputs.
use Rattle.std.proofs.Common.{◌≡◌, ℕ, suc, ◌+◌, Bool, true, false, cond, List, [], ◌∷◌, Option, Some, None, slice_get, refl, sym, ap, subst, ◌∙◌, arith}
use Rattle.std.specs.List.{find, flat_map}
use Rattle.std.specs.Option.{option_and_then, option_or}
use Rattle.std.proofs.lemmas.List.Folds.{find-append}
use Rattle.relay_conf.specs.declared.relay.Relay.{Relay}
use Rattle.relay_conf.specs.declared.relay.Scope.{Scope}
use Rattle.relay_conf.specs.declared.relay.MatchRule.{MatchRule}
use Rattle.relay_conf.specs.declared.output.Output.{Output}
use Rattle.relay_net.specs.Index.{output_in, among_outputs, among_rules, among_scopes}
use Rattle.relay_net.specs.Network.{output_of}
use Rattle.relay_conf.specs.Buffers.{buffer_number}
use Rattle.relay_net.specs.Outputs.{is_numbered}
use Rattle.relay_net.specs.declared.index.OutputPlace.{OutputPlace}

-- The one is nothing where the other is, else it leads to the other.
abbrev pub Agree : {X Y : Type 0} → (X → Option Y) → Option X → Option Y → Type 0
Agree f None None = Unit {0}
Agree f None (Some y) = ⊥
Agree f (Some x) None = ⊥
Agree f (Some x) (Some y) = f x ≡ Some y

agree_or : {X Y : Type 0} (f : X → Option Y) (a b : Option X) (c d : Option Y) → Agree f a c → Agree f b d → Agree f (option_or a b) (option_or c d)
agree_or f None b None d h k = k
agree_or f None b (Some y) d h k = absurd h
agree_or f (Some x) b None d h k = absurd h
agree_or f (Some x) b (Some y) d h k = h

agree_means : {X Y : Type 0} (f : X → Option Y) (a : Option X) (c : Option Y) → Agree f a c → option_and_then f a ≡ c
agree_means f None None h = refl
agree_means f None (Some y) h = absurd h
agree_means f (Some x) None h = absurd h
agree_means f (Some x) (Some y) h = h

-- the output has this buffer
abbrev pub has : {A : Type 0} → ℕ → Output A → Bool
has buffer o = is_numbered (buffer_number o) buffer

module _ {A : Type 0} (f : OutputPlace → Option (Output A)) (buffer : ℕ) where
  at_outputs : (scope rule place : ℕ) (outputs : List (Output A)) → ((i : ℕ) → f (record { scope = scope; rule = rule; output = place + i }) ≡ slice_get outputs i)
      → Agree f (among_outputs scope rule place outputs buffer) (find (has buffer) outputs)
  at_outputs scope rule place [] h = tt
  at_outputs scope rule place (o ∷ outputs) h = by (is_numbered (buffer_number o) buffer) (at_outputs scope rule (suc place) outputs (λ i. ap (λ n. f (there n)) (omega arith) ∙ h (suc i)))
    where
      there : ℕ → OutputPlace
      there n = record { scope = scope; rule = rule; output = n }

      by : (b : Bool) → Agree f (among_outputs scope rule (suc place) outputs buffer) (find (has buffer) outputs)
          → Agree f (cond b (Some (there place)) (among_outputs scope rule (suc place) outputs buffer)) (cond b (Some o) (find (has buffer) outputs))
      by true more = ap (λ n. f (there n)) (omega arith) ∙ h 0
      by false more = more

  at_rules : (scope place : ℕ) (rules : List (MatchRule A))
      → ((i j : ℕ) → f (record { scope = scope; rule = place + i; output = j }) ≡ option_and_then (λ rule. slice_get rule.outputs.items j) (slice_get rules i))
      → Agree f (among_rules scope place rules buffer) (find (has buffer) (flat_map (λ rule. rule.outputs.items) rules))
  at_rules scope place [] h = tt
  at_rules scope place (rule ∷ rules) h = subst (Agree f (among_rules scope place (rule ∷ rules) buffer)) (sym (find-append (has buffer) rule.outputs.items (flat_map (λ r. r.outputs.items) rules)))
      (agree_or f _ _ _ _ (at_outputs scope place 0 rule.outputs.items (λ j. ap (λ n. f (there place n)) (omega arith) ∙ (ap (λ n. f (there n j)) (omega arith) ∙ h 0 j)))
      (at_rules scope (suc place) rules (λ i j. ap (λ n. f (there n j)) (omega arith) ∙ h (suc i) j)))
    where
      there : ℕ → ℕ → OutputPlace
      there n j = record { scope = scope; rule = n; output = j }

  at_scopes : (place : ℕ) (scopes : List (Scope A))
      → ((i j k : ℕ) → f (record { scope = place + i; rule = j; output = k })
      ≡ option_and_then (λ rule. slice_get rule.outputs.items k) (option_and_then (λ scope. slice_get scope.matches.items j) (slice_get scopes i)))
      → Agree f (among_scopes place scopes buffer) (find (has buffer) (flat_map (λ scope. flat_map (λ rule. rule.outputs.items) scope.matches.items) scopes))
  at_scopes place [] h = tt
  at_scopes place (scope ∷ scopes) h = subst (Agree f (among_scopes place (scope ∷ scopes) buffer))
      (sym (find-append (has buffer) (flat_map (λ rule. rule.outputs.items) scope.matches.items) (flat_map (λ s. flat_map (λ rule. rule.outputs.items) s.matches.items) scopes)))
      (agree_or f _ _ _ _ (at_rules place 0 scope.matches.items (λ j k. ap (λ n. f (there place n k)) (omega arith) ∙ (ap (λ n. f (there n j k)) (omega arith) ∙ h 0 j k)))
      (at_scopes (suc place) scopes (λ i j k. ap (λ n. f (there n j k)) (omega arith) ∙ h (suc i) j k)))
    where
      there : ℕ → ℕ → ℕ → OutputPlace
      there n j k = record { scope = n; rule = j; output = k }

-- the output at the place that is found is that of the buffer
pub places_are : {A : Type 0} (relay : Relay A) (buffer : ℕ) → option_and_then (output_in relay) (among_scopes 0 relay.scopes.items buffer) ≡ output_of relay buffer
places_are relay buffer = agree_means (output_in relay) _ _ (at_scopes (output_in relay) buffer 0 relay.scopes.items (λ i j k. ap (λ n. output_in relay (record { scope = n; rule = j; output = k })) (omega arith)))
