-- The outputs of a match, as the hops of its table.
use Rattle.std.proofs.Common.{◌≡◌, ℕ, zero, suc, List, [], ◌∷◌, Option, Some, None, slice_get, refl, sym, ap, subst, ◌⊎◌, inl, inr, Contains, filter_map}
use Rattle.std.specs.List.{cons_option}
use Rattle.std.proofs.lemmas.Option.{same_Some}
use Rattle.relay_conf.specs.declared.output.BufferNo.{BufferNo}
use Rattle.relay_conf.specs.declared.output.Output.{Output}
use Rattle.relay_conf.specs.declared.output.Output.TheVariants as output
use Rattle.relay_conf.specs.declared.relay.ScopeNo.{ScopeNo}
use Rattle.relay_conf.specs.Buffers.{buffer_number}
use Rattle.relay_net.specs.Outputs.{Keeps}
use Rattle.route_graph.specs.Table.{hop_of}
use Rattle.route_graph.specs.declared.hop.Hop.{Hop}
use Rattle.route_graph.specs.declared.hop.Hop.TheVariants.{Buffer, Scope}
use Rattle.route_graph.proofs.Members.{cons-cases, cons-head, cons-tail, nil-none}
use Rattle.loss_rules.specs.Sites.{RelabelsTo}

-- the hop to a buffer, and the one to a scope
abbrev pub to_buffer : ℕ → Hop
to_buffer number = Buffer (record { 0 = number })

abbrev pub to_scope : ℕ → Hop
to_scope scope = Scope (record { 0 = scope })

option-cases : {X : Type 0} (first : Option X) (rest : List X) (x : X) → Contains (cons_option first rest) x → (first ≡ Some x) ⊎ Contains rest x
option-cases None rest x c = inr c
option-cases (Some y) rest x c = elim (cons-cases y rest x c) [
  | inl e ↦ inl (ap Some e)
  | inr h ↦ inr h
]

option-tail : {X : Type 0} (first : Option X) (rest : List X) (x : X) → Contains rest x → Contains (cons_option first rest) x
option-tail None rest x c = c
option-tail (Some y) rest x c = cons-tail y rest x c

-- each hop is that of an output
pub hop-output : {A : Type 0} (outputs : List (Output A)) (hop : Hop) → Contains (filter_map hop_of outputs) hop → (o : ℕ) × (found : Output A) × (slice_get outputs o ≡ Some found) × (hop_of found ≡ Some hop)
hop-output [] hop c = absurd (nil-none hop c)
hop-output (out ∷ outputs) hop c =
    elim (option-cases (hop_of out) (filter_map hop_of outputs) hop c) [
      | inl e ↦ (zero, out, refl, e)
      | inr h ↦ let r = hop-output outputs hop h in (suc r.0, r.1, r.2, r.3)
    ]

-- the hop of an output is among them
pub output-hop : {A : Type 0} (outputs : List (Output A)) (o : ℕ) (found : Output A) (hop : Hop) → slice_get outputs o ≡ Some found → hop_of found ≡ Some hop → Contains (filter_map hop_of outputs) hop
output-hop [] o found hop e h = absurd (cc)
output-hop (out ∷ outputs) zero found hop e h =
    let here : hop_of out ≡ Some hop = subst (λ x. hop_of x ≡ Some hop) (sym (same_Some out found e)) h in
    subst (λ first. Contains (cons_option first (filter_map hop_of outputs)) hop) (sym here) (cons-head hop (filter_map hop_of outputs))
output-hop (out ∷ outputs) (suc o) found hop e h = option-tail (hop_of out) (filter_map hop_of outputs) hop (output-hop outputs o found hop e h)

-- a hop to a buffer is that of the output with this number
pub buffer-number : {A : Type 0} (found : Output A) (number : ℕ) → hop_of found ≡ Some (to_buffer number) → buffer_number found ≡ Some number
buffer-number (output.Null line) number e = absurd (cc)
buffer-number (output.Relabel target line) number e = absurd (cc)
buffer-number (output.Forward settings line) number e = let same : settings.number ≡ record { 0 = number } = cc in ap (λ (x : BufferNo). Some x.0) same
buffer-number (output.File settings line) number e = let same : settings.number ≡ record { 0 = number } = cc in ap (λ (x : BufferNo). Some x.0) same

pub number-buffer : {A : Type 0} (found : Output A) (number : ℕ) → buffer_number found ≡ Some number → hop_of found ≡ Some (to_buffer number)
number-buffer (output.Null line) number e = absurd (cc)
number-buffer (output.Relabel target line) number e = absurd (cc)
number-buffer (output.Forward settings line) number e = ap (λ x. Some (to_buffer x)) (same_Some settings.number.0 number e)
number-buffer (output.File settings line) number e = ap (λ x. Some (to_buffer x)) (same_Some settings.number.0 number e)

-- a hop to a scope is that of a relabel to it
pub scope-relabel : {A : Type 0} (found : Output A) (scope : ℕ) → hop_of found ≡ Some (to_scope scope) → RelabelsTo found scope
scope-relabel (output.Null line) scope e = absurd (cc)
scope-relabel (output.Relabel target line) scope e = let same : target ≡ record { 0 = scope } = cc in ap (λ (x : ScopeNo). x.0) same
scope-relabel (output.Forward settings line) scope e = absurd (cc)
scope-relabel (output.File settings line) scope e = absurd (cc)

pub relabel-scope : {A : Type 0} (found : Output A) (scope : ℕ) → RelabelsTo found scope → hop_of found ≡ Some (to_scope scope)
relabel-scope (output.Null line) scope h = absurd h
relabel-scope (output.Relabel target line) scope h = ap (λ x. Some (to_scope x)) h
relabel-scope (output.Forward settings line) scope h = absurd h
relabel-scope (output.File settings line) scope h = absurd h

-- an output that keeps has a buffer
pub keeps-number : {A : Type 0} (found : Output A) → Keeps found → (number : ℕ) × (buffer_number found ≡ Some number)
keeps-number (output.Null line) h = absurd h
keeps-number (output.Relabel target line) h = absurd h
keeps-number (output.Forward settings line) h = (settings.number.0, refl)
keeps-number (output.File settings line) h = (settings.number.0, refl)
