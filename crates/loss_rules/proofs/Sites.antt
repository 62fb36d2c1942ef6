-- Which output a buffer belongs to, and where it stands.
use Rattle.std.proofs.Common.{◌≡◌, ℕ, zero, suc, ◌<◌, Bool, true, false, cond, List, [], ◌∷◌, length, Option, Some, None, slice_get, refl, sym, ap, subst, ◌∙◌, inl, inr, Contains, find, flat_map}
use Rattle.std.specs.Option.{option_and_then}
use Rattle.std.proofs.lemmas.Bool.Decides.{Decides-eqb}
use Rattle.std.proofs.lemmas.List.Elements.{Contains-append_left, Contains-append_right}
use Rattle.std.proofs.lemmas.Option.{same_Some, option_and_then_some, slice_get_within}
use Rattle.relay_conf.specs.declared.output.Output.{Output}
use Rattle.relay_conf.specs.declared.relay.MatchRule.{MatchRule}
use Rattle.relay_conf.specs.declared.relay.Relay.{Relay}
use Rattle.relay_conf.specs.declared.relay.Scope.{Scope}
use Rattle.relay_net.specs.Index.{output_in, among_scopes}
use Rattle.relay_net.specs.Network.{Network, relay_at, output_of, output_at, outputs_of}
use Rattle.relay_conf.specs.Buffers.{buffer_number, HaveOwnBuffers}
use Rattle.relay_net.specs.Outputs.{is_numbered}
use Rattle.relay_net.specs.declared.index.OutputPlace.{OutputPlace}
use Rattle.relay_net.proofs.Agreement.{has, places_are}
use Rattle.route_graph.proofs.Members.{cons-cases, cons-head, cons-tail, nil-none}
use Rattle.loss_rules.specs.Sites.{output_in_rule, BuffersAreDistinct}

-- ---- searches

-- what is found passes the test
find-passes : {X : Type 0} (test : X → Bool) (xs : List X) (x : X) → find test xs ≡ Some x → test x ≡ true
find-passes test [] x e = absurd (cc)
find-passes {X} test (y ∷ xs) x e = by (test y) refl (find-passes test xs x) e
  where
    by : (b : Bool) → test y ≡ b → (find test xs ≡ Some x → test x ≡ true) → cond b (Some y) (find test xs) ≡ Some x → test x ≡ true
    by true h more f = subst (λ z. test z ≡ true) (same_Some y x f) h
    by false h more f = more f

-- where one passes the test, one is found
find-some : {X : Type 0} (test : X → Bool) (xs : List X) (x : X) → Contains xs x → test x ≡ true → (y : X) × (find test xs ≡ Some y)
find-some test [] x c h = absurd (nil-none x c)
find-some {X} test (y ∷ xs) x c h = by (test y) refl (λ rest. find-some test xs x rest h)
  where
    by : (b : Bool) → test y ≡ b → (Contains xs x → (z : X) × (find test xs ≡ Some z)) → (z : X) × (cond b (Some y) (find test xs) ≡ Some z)
    by true e more = (y, refl)
    by false e more = elim (cons-cases y xs x c) [
      | inl same ↦ (let f : test y ≡ true = subst (λ z. test z ≡ true) (sym same) h in let g : true ≡ false = sym f ∙ e in absurd (cc))
      | inr rest ↦ more rest
    ]

-- what stands at a place is in the list
pub place-contains : {X : Type 0} (xs : List X) (i : ℕ) (x : X) → slice_get xs i ≡ Some x → Contains xs x
place-contains [] i x e = absurd (cc)
place-contains (y ∷ xs) zero x e = subst (λ z. Contains (y ∷ xs) z) (same_Some y x e) (cons-head y xs)
place-contains (y ∷ xs) (suc i) x e = cons-tail y xs x (place-contains xs i x e)

flat-contains : {X Y : Type 0} (f : X → List Y) (xs : List X) (i : ℕ) (x : X) (y : Y) → slice_get xs i ≡ Some x → Contains (f x) y → Contains (flat_map f xs) y
flat-contains f [] i x y e c = absurd (cc)
flat-contains f (z ∷ xs) zero x y e c = Contains-append_left (f z) (flat_map f xs) y (subst (λ w. Contains (f w) y) (sym (same_Some z x e)) c)
flat-contains f (z ∷ xs) (suc i) x y e c = Contains-append_right (f z) (flat_map f xs) y (flat-contains f xs i x y e c)

-- ---- numbers

numbered-is : (found : Option ℕ) (buffer : ℕ) → is_numbered found buffer ≡ true → found ≡ Some buffer
numbered-is None buffer e = absurd (cc)
numbered-is (Some number) buffer e = ap Some ((Decides-eqb number buffer).0 e)

is-numbered : (found : Option ℕ) (buffer : ℕ) → found ≡ Some buffer → is_numbered found buffer ≡ true
is-numbered found buffer e = subst (λ x. is_numbered x buffer ≡ true) (sym e) ((Decides-eqb buffer buffer).1 refl)

-- ---- outputs

-- the output with these places in a relay that may be there
abbrev pub output_within : {A : Type 0} → Option (Relay A) → ℕ → ℕ → ℕ → Option (Output A)
output_within found scope rule output = option_and_then (λ r. slice_get r.outputs.items output) (option_and_then (λ s. slice_get s.matches.items rule) (option_and_then (λ relay. slice_get relay.scopes.items scope) found))

-- Where an output with this buffer stands.
pub record IsSite {A : Type 0} (relay : Option (Relay A)) (found : Output A) (buffer : ℕ) : Type 0 where
  pub scope : ℕ
  pub rule : ℕ
  pub output : ℕ
  pub there : output_within relay scope rule output ≡ Some found
  pub number : buffer_number found ≡ Some buffer

found-site : {A : Type 0} (relay : Relay A) (found : Output A) (buffer : ℕ) → output_of relay buffer ≡ Some found → IsSite (Some relay) found buffer
found-site {A} relay found buffer e =
    option_and_then_some (output_in relay) (among_scopes 0 relay.scopes.items buffer) found (places_are relay buffer ∙ e)
    (λ (place : OutputPlace) at here. record {
      scope = place.scope;
      rule = place.rule;
      output = place.output;
      there = here;
      number = numbered-is (buffer_number found) buffer (find-passes (has buffer) (outputs_of relay) found e);
    })

-- the output that is found for a buffer stands somewhere
pub site-of : {A : Type 0} (relay : Option (Relay A)) (found : Output A) (buffer : ℕ) → option_and_then (λ r. output_of r buffer) relay ≡ Some found → IsSite relay found buffer
site-of None found buffer e = absurd (cc)
site-of (Some relay) found buffer e = found-site relay found buffer e

within-contains : {A : Type 0} (relay : Relay A) (scope rule output : ℕ) (found : Output A) → output_within (Some relay) scope rule output ≡ Some found → Contains (outputs_of relay) found
within-contains {A} relay scope rule output found e =
    option_and_then_some (λ (r : MatchRule A). slice_get r.outputs.items output) (option_and_then (λ s. slice_get s.matches.items rule) (slice_get relay.scopes.items scope)) found e
    (λ (r : MatchRule A) at here. option_and_then_some (λ (s : Scope A). slice_get s.matches.items rule) (slice_get relay.scopes.items scope) r at
    (λ (s : Scope A) over place. flat-contains (λ t. flat_map (λ rule. rule.outputs.items) t.matches.items) relay.scopes.items scope s found over
    (flat-contains (λ rule. rule.outputs.items) s.matches.items rule r found place (place-contains r.outputs.items output found here))))

-- where an output with a buffer stands, one is found
some-found : {A : Type 0} (relay : Option (Relay A)) (scope rule output : ℕ) (found : Output A) (buffer : ℕ) → output_within relay scope rule output ≡ Some found → buffer_number found ≡ Some buffer
    → (other : Output A) × (option_and_then (λ r. output_of r buffer) relay ≡ Some other)
some-found None scope rule output found buffer e h = absurd (cc)
some-found (Some relay) scope rule output found buffer e h =
    find-some (has buffer) (outputs_of relay) found (within-contains relay scope rule output found e) (is-numbered (buffer_number found) buffer h)

-- where each buffer belongs to one output, the output that stands there is the one that is found
-- for its buffer
pub output-found : {A : Type 0} (net : Network A) → BuffersAreDistinct net → (place scope rule output : ℕ) (found : Output A) (buffer : ℕ) → output_in_rule net place scope rule output ≡ Some found → buffer_number found ≡ Some buffer
    → output_at net place buffer ≡ Some found
output-found {A} net distinct place scope rule output found buffer e h =
    let other = some-found (relay_at net place) scope rule output found buffer e h in
    let site = site-of (relay_at net place) other.0 buffer other.1 in
    let same = distinct place scope rule output site.scope site.rule site.output buffer found other.0 e site.there h site.number in
    let moved : output_in_rule net place site.scope site.rule site.output ≡ output_in_rule net place scope rule output = λ i. output_in_rule net place (same.0 i) (same.1 i) (same.2 i) in
    other.1 ∙ (sym site.there ∙ (moved ∙ e))

-- where each relay's outputs have buffers of their own, buffers are distinct
pub own-distinct : {A : Type 0} (net : Network A) → ((place : ℕ) (relay : Relay A) → relay_at net place ≡ Some relay → HaveOwnBuffers relay) → BuffersAreDistinct net
own-distinct {A} net own place scope rule output s r o buffer found other e there h k = by (relay_at net place) (own place) e there
  where
    by : (relay : Option (Relay A)) → ((r : Relay A) → relay ≡ Some r → HaveOwnBuffers r) → output_within relay scope rule output ≡ Some found → output_within relay s r o ≡ Some other → (s ≡ scope) × (r ≡ rule) × (o ≡ output)
    by None own e there = absurd (cc)
    by (Some relay) own e there = own relay refl scope rule output found e s r o other there buffer h k

-- ---- scopes

-- how many scopes the relay has
abbrev pub scope_count : {A : Type 0} → Option (Relay A) → ℕ
scope_count None = 0
scope_count (Some relay) = length relay.scopes.items

pub scope-within : {A : Type 0} (relay : Option (Relay A)) (scope rule : ℕ) (found : MatchRule A) → option_and_then (λ s. slice_get s.matches.items rule) (option_and_then (λ r. slice_get r.scopes.items scope) relay) ≡ Some found → scope < scope_count relay
scope-within None scope rule found e = absurd (cc)
scope-within {A} (Some relay) scope rule found e =
    option_and_then_some (λ (s : Scope A). slice_get s.matches.items rule) (slice_get relay.scopes.items scope) found e (λ (s : Scope A) at here. slice_get_within relay.scopes.items scope s at)
