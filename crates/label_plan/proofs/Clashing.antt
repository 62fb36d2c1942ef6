-- What the tests on clashes decide.
use Rattle.std.proofs.Common.{◌≡◌, inl, inr, ℕ, zero, suc, Bool, true, false, List, [], ◌∷◌, slice_get, Option, Some, refl, subst, eq-eqb}
use Rattle.std.specs.List.{list_all}
use Rattle.std.specs.Option.{option_and_then}
use Rattle.std.proofs.lemmas.Option.{same_Some, option_and_then_some}
use Rattle.std.proofs.lemmas.Slice.Eq.{bytes_eq-Decides}
use Rattle.relay_conf.specs.Buffers.{buffer_number}
use Rattle.relay_conf.specs.declared.output.Output.{Output}
use Rattle.relay_conf.specs.declared.relay.MatchRule.{MatchRule}
use Rattle.relay_conf.specs.declared.relay.Relay.{Relay}
use Rattle.relay_conf.specs.declared.relay.Scope.{Scope}
use Rattle.loss_rules.specs.Rules.{buffer_path, sink_path}
use Rattle.label_plan.specs.Clashes.{same_number, same_path, clash, are_apart, is_free_rule, is_free_scope, is_free, IsFree}
use Rattle.label_plan.specs.Sinks.{Clash}
use Rattle.label_plan.proofs.Bools.{both, neither, not_so}

-- one of all that pass
all_at : {X : Type 0} (p : X → Bool) (xs : List X) (i : ℕ) (x : X) → list_all p xs ≡ true → slice_get xs i ≡ Some x → p x ≡ true
all_at p [] i x all at = absurd (cc)
all_at p (y ∷ xs) zero x all at = subst (λ z. p z ≡ true) (same_Some y x at) (both (p y) (list_all p xs) all).0
all_at p (y ∷ xs) (suc i) x all at = all_at p xs i x (both (p y) (list_all p xs) all).1 at

numbers_same : (one two : Option ℕ) (n : ℕ) → one ≡ Some n → two ≡ Some n → same_number one two ≡ true
numbers_same one two n e f = rw (e, f) (eq-eqb n n refl)

paths_same : (one two : Option (List ℕ)) (path : List ℕ) → one ≡ Some path → two ≡ Some path → same_path one two ≡ true
paths_same one two path e f = rw (e, f) ((bytes_eq-Decides path path).1 refl)

contradiction : {X : Type 0} (b : Bool) → b ≡ true → b ≡ false → X
contradiction true e f = absurd (cc)
contradiction false e f = absurd (cc)

-- outputs that clash are found to
no_clash : {A : Type 0} (one two : Output A) → clash one two ≡ false → ¬ Clash one two
no_clash one two none (inl (n, e, f)) = contradiction _ (numbers_same (buffer_number one) (buffer_number two) n e f) (neither _ _ none).0
no_clash one two none (inr (path, inl (e, f))) = contradiction _ (paths_same (buffer_path one) (buffer_path two) path e f) (neither _ _ (neither _ _ none).1).0
no_clash one two none (inr (path, inr (e, f))) = contradiction _ (paths_same (sink_path one) (sink_path two) path e f) (neither _ _ (neither _ _ none).1).1

apart : {A : Type 0} (one two : Output A) → are_apart one two ≡ true → ¬ Clash one two
unfolding are_apart
apart one two e = no_clash one two (not_so _ e)

-- where it is decided, no output of the relay clashes
pub found_free : {A : Type 0} (relay : Relay A) (sink : Output A) → is_free relay sink ≡ true → IsFree relay sink
found_free {A} relay sink free scope rule output other there =
    option_and_then_some (λ (r : MatchRule A). slice_get r.outputs.items output) (option_and_then (λ s. slice_get s.matches.items rule) (slice_get relay.scopes.items scope)) other there
    (λ (r : MatchRule A) at here. option_and_then_some (λ (s : Scope A). slice_get s.matches.items rule) (slice_get relay.scopes.items scope) r at
    (λ (s : Scope A) over place.
    let in_scope = all_at (is_free_scope sink) relay.scopes.items scope s free over in
    let in_rule = all_at (is_free_rule sink) s.matches.items rule r in_scope place in
    apart other sink (all_at (λ (o : Output A). are_apart o sink) r.outputs.items output other in_rule here)))
