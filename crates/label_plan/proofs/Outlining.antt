-- What depends on a network's outline alone.
use Rattle.std.proofs.Common.{◌≡◌, ◌==◌, ◌+◌, not, nat_lt, ℕ, Bool, true, false, cond, List, [], ◌∷◌, map, slice_get, Option, Some, None, option_map, is_some, string_bytes, refl, sym, ap, ◌∙◌}
use Rattle.std.specs.List.{find, position, position_or_len}
use Rattle.std.specs.Option.{option_and_then, option_map_or}
use Rattle.std.proofs.lemmas.List.{length-map}
use Rattle.std.proofs.lemmas.Option.{slice_get-map}
use Rattle.relay_conf.specs.declared.relay.Scope.{Scope}
use Rattle.relay_net.specs.Network.{place_among, all_enter, enters}
use Rattle.relay_net.specs.declared.node.Client.{Client}
use Rattle.relay_net.specs.declared.node.Node.{Node}
use Rattle.label_plan.specs.Changes.{match_in}
use Rattle.label_plan.specs.Outlines.{RelayOutline, match_outline, scope_outline, relay_outline, outline}

-- ---- where the first is that passes

place-map : {X Y : Type 0} (f : X → Y) (test : Y → Bool) (xs : List X) → position_or_len test (map f xs) ≡ position_or_len (λ x. test (f x)) xs
place-map f test [] = refl
place-map f test (x ∷ xs) = ap (λ n. cond (not (test (f x))) (1 + n) 0) (place-map f test xs)

position-map : {X Y : Type 0} (f : X → Y) (test : Y → Bool) (xs : List X) → position test (map f xs) ≡ position (λ x. test (f x)) xs
position-map f test xs = λ i. cond (nat_lt (place-map f test xs i) (length-map xs f i)) (Some (place-map f test xs i)) None

pub place_stays : {A : Type 0} (before after : List (Node A)) (number : ℕ) → outline after ≡ outline before → place_among after number ≡ place_among before number
place_stays before after number same =
    sym (position-map relay_outline (λ o. o.number == number) after) ∙ ap (position (λ o. o.number == number)) same ∙ position-map relay_outline (λ o. o.number == number) before

-- the scope with this name, in the relay at this place
abbrev pub named_scope : {A : Type 0} → (List ℕ → Bool) → List (Node A) → ℕ → Option ℕ
named_scope test nodes place = option_and_then (λ node. position (λ scope. test (string_bytes scope.name)) node.relay.scopes.items) (slice_get nodes place)

scope_of_outline : {A : Type 0} (test : List ℕ → Bool) (found : Option (Node A))
    → option_and_then (λ node. position (λ scope. test (string_bytes scope.name)) node.relay.scopes.items) found ≡ option_and_then (λ o. position (λ scope. test scope.name) o.scopes) (option_map relay_outline found)
scope_of_outline test None = refl
scope_of_outline test (Some node) = sym (position-map scope_outline (λ scope. test scope.name) node.relay.scopes.items)

named_outline : {A : Type 0} (test : List ℕ → Bool) (nodes : List (Node A)) (place : ℕ) → named_scope test nodes place ≡ option_and_then (λ o. position (λ scope. test scope.name) o.scopes) (slice_get (outline nodes) place)
named_outline test nodes place = scope_of_outline test (slice_get nodes place) ∙ ap (option_and_then (λ o. position (λ scope. test scope.name) o.scopes)) (sym (slice_get-map relay_outline nodes place))

pub scope_stays : {A : Type 0} (test : List ℕ → Bool) (before after : List (Node A)) (place : ℕ) → outline after ≡ outline before → named_scope test after place ≡ named_scope test before place
scope_stays test before after place same =
    named_outline test after place ∙ ap (λ o. option_and_then (λ r. position (λ scope. test scope.name) r.scopes) (slice_get o place)) same ∙ sym (named_outline test before place)

-- ---- whether a match is there

rule_outline : {A : Type 0} (rule : ℕ) (scope : Option (Scope A))
    → option_map match_outline (option_and_then (λ found. slice_get found.matches.items rule) scope) ≡ option_and_then (λ o. slice_get o.matches rule) (option_map scope_outline scope)
rule_outline rule None = refl
rule_outline rule (Some scope) = sym (slice_get-map match_outline scope.matches.items rule)

scope_in_outline : {A : Type 0} (scope : ℕ) (node : Option (Node A))
    → option_map scope_outline (option_and_then (λ relay. slice_get relay.scopes.items scope) (option_map (λ n. n.relay) node)) ≡ option_and_then (λ o. slice_get o.scopes scope) (option_map relay_outline node)
scope_in_outline scope None = refl
scope_in_outline scope (Some node) = sym (slice_get-map scope_outline node.relay.scopes.items scope)

match_of_outline : {A : Type 0} (nodes : List (Node A)) (place scope rule : ℕ)
    → option_map match_outline (match_in nodes place scope rule) ≡ option_and_then (λ o. slice_get o.matches rule) (option_and_then (λ o. slice_get o.scopes scope) (slice_get (outline nodes) place))
match_of_outline nodes place scope rule =
    rule_outline rule (option_and_then (λ relay. slice_get relay.scopes.items scope) (option_map (λ n. n.relay) (slice_get nodes place)))
    ∙ ap (option_and_then (λ o. slice_get o.matches rule)) (scope_in_outline scope (slice_get nodes place) ∙ ap (option_and_then (λ o. slice_get o.scopes scope)) (sym (slice_get-map relay_outline nodes place)))

pub match_stays : {A : Type 0} (before after : List (Node A)) (place scope rule : ℕ) → outline after ≡ outline before → option_map match_outline (match_in after place scope rule) ≡ option_map match_outline (match_in before place scope rule)
match_stays before after place scope rule same =
    match_of_outline after place scope rule ∙ ap (λ o. option_and_then (λ s. slice_get s.matches rule) (option_and_then (λ r. slice_get r.scopes scope) (slice_get o place))) same ∙ sym (match_of_outline before place scope rule)

mapped_some : {X Y : Type 0} (f : X → Y) (o : Option X) → is_some (option_map f o) ≡ is_some o
mapped_some f None = refl
mapped_some f (Some x) = refl

pub is_there_still : {A : Type 0} (before after : List (Node A)) (place scope rule : ℕ) → outline after ≡ outline before → is_some (match_in after place scope rule) ≡ is_some (match_in before place scope rule)
is_there_still before after place scope rule same =
    sym (mapped_some match_outline (match_in after place scope rule)) ∙ ap is_some (match_stays before after place scope rule same) ∙ mapped_some match_outline (match_in before place scope rule)

-- ---- whether clients send to sources

-- whether the relay of this outline that the client's number means has a source of its port
abbrev enters_outline : {A : Type 0} → List (RelayOutline A) → Client A → Bool
enters_outline outlines client = option_map_or (λ o. is_some (find (λ source. source.port == client.port) o.sources)) (find (λ o. o.number == client.relay) outlines) false

enters_by : {A : Type 0} (nodes : List (Node A)) (client : Client A) → enters nodes client ≡ enters_outline (outline nodes) client
enters_by [] client = refl
enters_by {A} (node ∷ nodes) client = by (node.number == client.relay) (enters_by nodes client)
  where
    by : (b : Bool) → enters nodes client ≡ enters_outline (outline nodes) client
        → option_map_or (λ n. is_some (find (λ source. source.port == client.port) n.relay.sources.items)) (cond b (Some node) (find (λ n. n.number == client.relay) nodes)) false
        ≡ option_map_or (λ o. is_some (find (λ source. source.port == client.port) o.sources)) (cond b (Some (relay_outline node)) (find (λ o. o.number == client.relay) (outline nodes))) false
    by true more = refl
    by false more = more

pub enter_still : {A : Type 0} (before after : List (Node A)) (clients : List (Client A)) → outline after ≡ outline before → all_enter after clients ≡ all_enter before clients
enter_still before after [] same = refl
enter_still before after (client ∷ clients) same =
    let one : enters after client ≡ enters before client = enters_by after client ∙ ap (λ o. enters_outline o client) same ∙ sym (enters_by before client) in
    let more = enter_still before after clients same in
    rw (one, more) refl
