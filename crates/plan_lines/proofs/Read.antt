-- What a reader finds at a place of a list.
use Rattle.std.proofs.Common.{◌≡◌, ◌∙◌, ℕ, List, Option, Some, None, slice_get, sym, ap, Bor}
use Rattle.std.specs.Prelude.{option_map}
use Rattle.std.specs.Option.{option_copied, option_and_then}
use Rattle.std.specs.Slice.{IsItemAt}
use Rattle.relay_conf.specs.declared.relay.Scope.{Scope}
use Rattle.relay_net.proofs.Gets.{got}
use Rattle.relay_net.specs.Network.{Network}
use Rattle.relay_net.specs.declared.node.Node.{Node}
use Rattle.loss_rules.specs.Sites.{rule_at}
use Rattle.plan_lines.specs.Plans.{scope_of, scope_at}

-- what is made of what stands at the place is made of what was read there
abbrev pub Reads : {X : Type 0} → List X → List X → ℕ → Option (Bor X) → Option (Bor X) → Type 0
Reads xs ys place r is = (ys ≡ xs) × IsItemAt ys place r × (r ≡ is)

read_as : {X Y : Type 0} (f : Option X → Y) (xs ys : List X) (place : ℕ) (r is : Option (Bor X)) → Reads xs ys place r is → f (option_copied is) ≡ f (slice_get xs place)
read_as f xs ys place r is h = ap f (sym (ap option_copied h.2) ∙ got xs ys place r h.0 h.1)

-- no match: the scope has none at the index
pub no_rule_in : {X : Type 0} (xs ys : List X) (index : ℕ) (r : Option (Bor X)) → Reads xs ys index r None → None ≡ option_map (λ _. index) (slice_get xs index)
no_rule_in xs ys index r h = read_as (option_map (λ _. index)) xs ys index r None h

-- a match of the scope
pub rule_in_is : {X : Type 0} (xs ys : List X) (index : ℕ) (r : Option (Bor X)) (x : Bor X) → Reads xs ys index r (Some x) → Some index ≡ option_map (λ _. index) (slice_get xs index)
rule_in_is xs ys index r x h = read_as (option_map (λ _. index)) xs ys index r (Some x) h

module _ {A : Type 0} where
  abbrev rule_by : ℕ → Option (Scope A) → Option ℕ
  rule_by index scope = option_map (λ _. index) (option_and_then (λ found. slice_get found.matches.items index) scope)

  -- no match: the relay has no such scope
  pub no_rule_of : (xs ys : List (Scope A)) (scope index : ℕ) (r : Option (Bor (Scope A))) → Reads xs ys scope r None → None ≡ rule_by index (slice_get xs scope)
  no_rule_of xs ys scope index r h = read_as (rule_by index) xs ys scope r None h

  -- a match of the relay, by that of its scope
  pub rule_of_is : (xs ys : List (Scope A)) (scope index : ℕ) (r : Option (Bor (Scope A))) (x : Bor (Scope A)) (found : Option ℕ) → Reads xs ys scope r (Some x) → found ≡ option_map (λ _. index) (slice_get x.now.matches.items index) → found ≡ rule_by index (slice_get xs scope)
  rule_of_is xs ys scope index r x found h e = e ∙ read_as (rule_by index) xs ys scope r (Some x) h

  abbrev rule_from : ℕ → ℕ → Option (Node A) → Option ℕ
  rule_from scope index node = option_map (λ _. index) (option_and_then (λ found. slice_get found.matches.items index) (option_and_then (λ relay. slice_get relay.scopes.items scope) (option_map (λ n. n.relay) node)))

  -- no match: there is no such relay
  pub no_rule : (net : Network A) (ys : List (Node A)) (place scope index : ℕ) (r : Option (Bor (Node A))) → Reads net.relays ys place r None → None ≡ option_map (λ _. index) (rule_at net place scope index)
  no_rule net ys place scope index r h = read_as (rule_from scope index) net.relays ys place r None h

  -- a match of the network, by that of its relay
  pub rule_is : (net : Network A) (ys : List (Node A)) (place scope index : ℕ) (r : Option (Bor (Node A))) (x : Bor (Node A)) (found : Option ℕ) → Reads net.relays ys place r (Some x) → found ≡ rule_by index (slice_get x.now.relay.scopes.items scope) → found ≡ option_map (λ _. index) (rule_at net place scope index)
  rule_is net ys place scope index r x found h e = e ∙ read_as (rule_from scope index) net.relays ys place r (Some x) h

  -- no scope: there is no such relay
  pub no_scope : (nodes ys : List (Node A)) (place : ℕ) (word : List ℕ) (r : Option (Bor (Node A))) → Reads nodes ys place r None → None ≡ scope_at nodes place word
  no_scope nodes ys place word r h = read_as (option_and_then (λ node. scope_of node.relay word)) nodes ys place r None h

  -- a scope of the network, by that of its relay
  pub scope_is : (nodes ys : List (Node A)) (place : ℕ) (word : List ℕ) (r : Option (Bor (Node A))) (x : Bor (Node A)) (found : Option ℕ) → Reads nodes ys place r (Some x) → found ≡ scope_of x.now.relay word → found ≡ scope_at nodes place word
  scope_is nodes ys place word r x found h e = e ∙ read_as (option_and_then (λ node. scope_of node.relay word)) nodes ys place r (Some x) h
