-- That what a line names is found by what the plan says, and by nothing else of it.
use Rattle.std.proofs.Common.{◌≡◌, ◌∙◌, ℕ, ◌+◌, ◌==◌, not, Bool, true, false, cond, List, [], ◌∷◌, map, slice_get, Option, Some, None, refl, sym, ap}
use Rattle.std.specs.Prelude.{find, position, nat_lt, option_map}
use Rattle.std.specs.List.{position_or_len}
use Rattle.std.specs.Option.{option_and_then}
use Rattle.std.specs.Str.{bytes_eq}
use Rattle.std.proofs.lemmas.List.{length-map}
use Rattle.std.proofs.lemmas.Option.{none-some, slice_get-map}
use Rattle.relay_conf.specs.declared.relay.Scope.{Scope}
use Rattle.relay_net.specs.Network.{Network, place_among, node_of, source_of_port}
use Rattle.relay_net.specs.declared.node.Node.{Node}
use Rattle.loss_rules.specs.Sites.{rule_at}
use Rattle.plan_lines.specs.Plans.{scope_name, scope_of, scope_at}
use Rattle.plan_lines.specs.Meanings.{SourceMeaning, MatchMeaning, RelayMeaning, source_view, match_view, scope_view, relay_view}

-- places and what is found, in a list whose elements are seen otherwise

place-map : {X Y : Type 0} (f : X → Y) (test : Y → Bool) (xs : List X) → position_or_len test (map f xs) ≡ position_or_len (λ x. test (f x)) xs
place-map f test [] = refl
place-map f test (x ∷ xs) = ap (λ n. cond (not (test (f x))) (1 + n) 0) (place-map f test xs)

position-map : {X Y : Type 0} (f : X → Y) (test : Y → Bool) (xs : List X) → position test (map f xs) ≡ position (λ x. test (f x)) xs
position-map f test xs = λ i. cond (nat_lt (place-map f test xs i) (length-map xs f i)) (Some (place-map f test xs i)) None

find-map : {X Y : Type 0} (f : X → Y) (test : Y → Bool) (xs : List X) → find test (map f xs) ≡ option_map f (find (λ x. test (f x)) xs)
find-map f test [] = refl
find-map f test (x ∷ xs) = by (test (f x)) (find-map f test xs)
  where
    by : (b : Bool) → find test (map f xs) ≡ option_map f (find (λ y. test (f y)) xs)
        → cond b (Some (f x)) (find test (map f xs)) ≡ option_map f (cond b (Some x) (find (λ y. test (f y)) xs))
    by true e = refl
    by false e = e

map_and_then : {X Y Z : Type 0} (f : Y → Z) (g : X → Option Y) (o : Option X) → option_map f (option_and_then g o) ≡ option_and_then (λ x. option_map f (g x)) o
map_and_then f g None = refl
map_and_then f g (Some x) = refl

-- where the one is nothing the other is
pub none_there : {X Y Z : Type 0} (f : X → Z) (g : Y → Z) (x : Option X) (y : Option Y) → option_map f x ≡ option_map g y → x ≡ None → y ≡ None
none_there f g x None same none = refl
none_there f g x (Some y) same none = absurd (none-some (g y) (sym (ap (option_map f) none) ∙ same))

-- the same of what relays say: the place of a number, of a scope, a match, and a source by its port

abbrev pub seen_place : List RelayMeaning → ℕ → Option ℕ
seen_place relays number = position (λ relay. relay.number == number) relays

abbrev pub seen_scope : List RelayMeaning → ℕ → List ℕ → Option ℕ
seen_scope relays place word = option_and_then (λ relay. position (λ scope. bytes_eq scope.name (scope_name word)) relay.conf.scopes) (slice_get relays place)

abbrev pub seen_rule : List RelayMeaning → ℕ → ℕ → ℕ → Option MatchMeaning
seen_rule relays place scope rule = option_and_then (λ found. slice_get found.matches rule) (option_and_then (λ relay. slice_get relay.conf.scopes scope) (slice_get relays place))

abbrev pub seen_source : List RelayMeaning → ℕ → ℕ → Option SourceMeaning
seen_source relays number port = option_and_then (λ relay. find (λ source. source.port == port) relay.conf.sources) (find (λ relay. relay.number == number) relays)

module _ {A : Type 0} where
  pub place_seen : (nodes : List (Node A)) (number : ℕ) → place_among nodes number ≡ seen_place (map relay_view nodes) number
  place_seen nodes number = sym (position-map relay_view (λ relay. relay.number == number) nodes)

  scope_in : (word : List ℕ) (found : Option (Node A)) → option_and_then (λ node. scope_of node.relay word) found
      ≡ option_and_then (λ relay. position (λ scope. bytes_eq scope.name (scope_name word)) relay.conf.scopes) (option_map relay_view found)
  scope_in word None = refl
  scope_in word (Some node) = sym (position-map scope_view (λ scope. bytes_eq scope.name (scope_name word)) node.relay.scopes.items)

  pub scope_seen : (nodes : List (Node A)) (place : ℕ) (word : List ℕ) → scope_at nodes place word ≡ seen_scope (map relay_view nodes) place word
  scope_seen nodes place word =
      scope_in word (slice_get nodes place) ∙ ap (option_and_then (λ relay. position (λ scope. bytes_eq scope.name (scope_name word)) relay.conf.scopes)) (sym (slice_get-map relay_view nodes place))

  rule_in_scope : (rule : ℕ) (found : Option (Scope A)) → option_map match_view (option_and_then (λ scope. slice_get scope.matches.items rule) found)
      ≡ option_and_then (λ scope. slice_get scope.matches rule) (option_map scope_view found)
  rule_in_scope rule None = refl
  rule_in_scope rule (Some scope) = sym (slice_get-map match_view scope.matches.items rule)

  rule_in : (scope rule : ℕ) (found : Option (Node A))
      → option_map match_view (option_and_then (λ s. slice_get s.matches.items rule) (option_and_then (λ relay. slice_get relay.scopes.items scope) (option_map (λ node. node.relay) found)))
      ≡ option_and_then (λ s. slice_get s.matches rule) (option_and_then (λ relay. slice_get relay.conf.scopes scope) (option_map relay_view found))
  rule_in scope rule None = refl
  rule_in scope rule (Some node) =
      rule_in_scope rule (slice_get node.relay.scopes.items scope) ∙ ap (option_and_then (λ s. slice_get s.matches rule)) (sym (slice_get-map scope_view node.relay.scopes.items scope))

  pub rule_seen : (net : Network A) (place scope rule : ℕ) → option_map match_view (rule_at net place scope rule) ≡ seen_rule (map relay_view net.relays) place scope rule
  rule_seen net place scope rule =
      rule_in scope rule (slice_get net.relays place)
      ∙ ap (λ found. option_and_then (λ s. slice_get s.matches rule) (option_and_then (λ relay. slice_get relay.conf.scopes scope) found)) (sym (slice_get-map relay_view net.relays place))

  source_in : (port : ℕ) (found : Option (Node A)) → option_map source_view (option_and_then (λ node. source_of_port node.relay port) found)
      ≡ option_and_then (λ relay. find (λ source. source.port == port) relay.conf.sources) (option_map relay_view found)
  source_in port None = refl
  source_in port (Some node) = sym (find-map source_view (λ source. source.port == port) node.relay.sources.items)

  -- what NoSource, NoScope and NoMatch speak of

  pub source_named : (nodes : List (Node A)) (number port : ℕ) → option_map source_view (option_and_then (λ node. source_of_port node.relay port) (node_of nodes number)) ≡ seen_source (map relay_view nodes) number port
  source_named nodes number port =
      source_in port (node_of nodes number) ∙ ap (option_and_then (λ relay. find (λ source. source.port == port) relay.conf.sources)) (sym (find-map relay_view (λ relay. relay.number == number) nodes))

  pub scope_named : (nodes : List (Node A)) (number : ℕ) (word : List ℕ) → option_and_then (λ place. scope_at nodes place word) (place_among nodes number)
      ≡ option_and_then (λ place. seen_scope (map relay_view nodes) place word) (seen_place (map relay_view nodes) number)
  scope_named nodes number word = λ i. option_and_then (λ place. scope_seen nodes place word i) (place_seen nodes number i)

  rule_of_scope : (net : Network A) (word : List ℕ) (index place : ℕ) → option_map match_view (option_and_then (λ scope. rule_at net place scope index) (scope_at net.relays place word))
      ≡ option_and_then (λ scope. seen_rule (map relay_view net.relays) place scope index) (seen_scope (map relay_view net.relays) place word)
  rule_of_scope net word index place =
      map_and_then match_view (λ scope. rule_at net place scope index) (scope_at net.relays place word)
      ∙ (λ i. option_and_then (λ scope. rule_seen net place scope index i) (scope_seen net.relays place word i))

  pub match_named : (net : Network A) (number : ℕ) (word : List ℕ) (index : ℕ)
      → option_map match_view (option_and_then (λ place. option_and_then (λ scope. rule_at net place scope index) (scope_at net.relays place word)) (place_among net.relays number))
      ≡ option_and_then (λ place. option_and_then (λ scope. seen_rule (map relay_view net.relays) place scope index) (seen_scope (map relay_view net.relays) place word)) (seen_place (map relay_view net.relays) number)
  match_named net number word index =
      map_and_then match_view (λ place. option_and_then (λ scope. rule_at net place scope index) (scope_at net.relays place word)) (place_among net.relays number)
      ∙ (λ i. option_and_then (λ place. rule_of_scope net word index place i) (place_seen net.relays number i))
