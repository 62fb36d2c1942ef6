-- A client that sends to a source has its address.
use Rattle.std.proofs.Common.{◌≡◌, ℕ, zero, suc, ◌==◌, ◌&&◌, Bool, true, false, cond, List, [], ◌∷◌, Option, Some, None, slice_get, refl, IsSome}
use Rattle.std.specs.Prelude.{is_some, option_map, string_bytes, IfSome}
use Rattle.std.specs.List.{list_all}
use Rattle.std.specs.Option.{option_map_or, option_or}
use Rattle.std.specs.Str.{bytes_eq}
use Rattle.std.proofs.lemmas.Slice.Eq.{bytes_eq-Decides}
use Rattle.relay_conf.specs.declared.relay.Source.{Source}
use Rattle.relay_net.specs.Network.{enters, all_enter, node_of, source_of_port, source_at, first_source, entrance, address_of_client}
use Rattle.relay_net.specs.declared.node.Client.{Client}
use Rattle.relay_net.specs.declared.node.Node.{Node}
use Rattle.relay_net.proofs.Hosts.{host_from}

first_or : {A : Type 0} (found : Option (Source A)) (place : ℕ) (other : Option (ℕ × Source A)) → is_some found ≡ true → IsSome (option_or (option_map (λ source. (place, source)) found) other)
first_or None place other h = absurd (cc h)
first_or (Some s) place other h = refl

or_other : {A : Type 0} (found : Option (Source A)) (place : ℕ) (other : Option (ℕ × Source A)) → IsSome other → IsSome (option_or (option_map (λ source. (place, source)) found) other)
or_other None place other h = h
or_other (Some s) place other h = refl

-- whether the relay, if it is there, has a source of the port
abbrev pub has_source : {A : Type 0} → Option (Node A) → ℕ → Bool
has_source found port = option_map_or (λ node. is_some (source_of_port node.relay port)) found false

itself : (bytes : List ℕ) → bytes_eq bytes bytes ≡ true
itself bytes = (bytes_eq-Decides bytes bytes).1 refl

pub entered : {A : Type 0} (place : ℕ) (nodes : List (Node A)) (number port : ℕ) → has_source (node_of nodes number) port ≡ true → IsSome (first_source place nodes (record { host = host_from nodes number; port = port }))
entered place [] number port h = absurd (cc h)
entered place (node ∷ nodes) number port h = by (node.number == number) (entered (suc place) nodes number port) h
  where
    by : (b : Bool) → (has_source (node_of nodes number) port ≡ true → IsSome (first_source (suc place) nodes (record { host = host_from nodes number; port = port })))
        → has_source (cond b (Some node) (node_of nodes number)) port ≡ true → IsSome (first_source place (node ∷ nodes) (record { host = option_map_or (λ node. string_bytes node.host) (cond b (Some node) (node_of nodes number)) []; port = port }))
    by true more h = first_or (source_at node (record { host = string_bytes node.host; port = port })) place (first_source (suc place) nodes (record { host = string_bytes node.host; port = port })) (rw (itself (string_bytes node.host)) h)
    by false more h = or_other (source_at node (record { host = host_from nodes number; port = port })) place (first_source (suc place) nodes (record { host = host_from nodes number; port = port })) (more h)

mapped : {X Y : Type 0} (f : X → Y) (found : Option X) → IsSome found → IsSome (option_map f found)
mapped f None h = h
mapped f (Some x) h = refl

both_left : (a b : Bool) → a && b ≡ true → a ≡ true
both_left true b h = refl
both_left false b h = absurd (cc h)

both_right : (a b : Bool) → a && b ≡ true → b ≡ true
both_right true b h = h
both_right false b h = absurd (cc h)

-- what all elements pass, the one at a place passes
passed_at : {X : Type 0} (test : X → Bool) (xs : List X) (place : ℕ) → list_all test xs ≡ true → IfSome (slice_get xs place) (λ x. test x ≡ true)
passed_at test [] place h = tt
passed_at test (x ∷ xs) zero h = both_left (test x) (list_all test xs) h
passed_at test (x ∷ xs) (suc place) h = passed_at test xs place (both_right (test x) (list_all test xs) h)

weaker : {X : Type 0} (found : Option X) (P Q : X → Type 0) → ((x : X) → P x → Q x) → IfSome found P → IfSome found Q
weaker None P Q more h = tt
weaker (Some x) P Q more h = more x h

-- each client's address is that of a source
pub all_entered : {A : Type 0} (nodes : List (Node A)) (clients : List (Client A)) → all_enter nodes clients ≡ true
    → (number : ℕ) → IfSome (slice_get clients number) (λ client. IsSome (entrance (record { relays = nodes; clients = clients }) (address_of_client (record { relays = nodes; clients = clients }) client)))
all_entered nodes clients h number =
    weaker (slice_get clients number) (λ client. enters nodes client ≡ true) (λ client. IsSome (entrance (record { relays = nodes; clients = clients }) (address_of_client (record { relays = nodes; clients = clients }) client)))
    (λ client e. mapped _ _ (entered 0 nodes client.relay client.port e)) (passed_at (enters nodes) clients number h)
