-- The first source with an address.
use Rattle.std.proofs.Common.{◌≡◌, ℕ, suc, ◌+◌, ◌==◌, ◌&&◌, ◌||◌, Bool, true, false, cond, List, [], ◌∷◌, Option, Some, None, slice_get, refl, sym, ap, subst, ◌∙◌, arith}
use Rattle.std.specs.Prelude.{Vec, option_map, is_some, string_bytes}
use Rattle.std.specs.Option.{option_and_then, option_or}
use Rattle.std.specs.Ordering.{nat_cmp, is_eq}
use Rattle.std.specs.declared.cmp.Ordering.{Ordering}
use Rattle.std.specs.Cmp.{eq_by_cmp_equiv}
use Rattle.std.specs.Cmp.Lexicographic.{slice_cmp, nat_list_cmp_total, nat_list_eq_equiv}
use Rattle.std.specs.Str.{bytes_eq}
use Rattle.std.specs.List.{find, list_any}
use Rattle.std.specs.BTreeMap.{BTreeMap, get, get_by, UpdatesBy}
use Rattle.std.specs.Map.{lookup, IsKeyTest, AreApart, KeepsOthers}
use Rattle.std.proofs.lemmas.Map.Text.{is_eq-slice_cmp}
use Rattle.std.proofs.lemmas.Slice.Eq.{bytes_eq-Decides}
use Rattle.relay_conf.specs.declared.relay.Source.{Source}
use Rattle.relay_net.specs.Addresses.{Address}
use Rattle.relay_net.specs.Network.{source_of_port, first_source}
use Rattle.relay_net.proofs.Passing.{or_none}
use Rattle.relay_net.specs.Sources.{place_at, among_nodes, has_source}
use Rattle.relay_net.specs.declared.node.Node.{Node}

-- how keys are compared, and a host with one
abbrev pub key_cmp : {A : Type 0} → Vec ℕ A → Vec ℕ A → Ordering
key_cmp x y = slice_cmp nat_cmp x.items y.items

abbrev pub host_cmp : {A : Type 0} → List ℕ → Vec ℕ A → Ordering
host_cmp host key = slice_cmp nat_cmp host key.items

others_stay : {K X : Type 0} (eq : K → K → Bool) (test : K → Bool) (old new : List (K × X)) → KeepsOthers eq test old new → (other : K → Bool) → IsKeyTest eq other → AreApart test other → lookup other new ≡ lookup other old
unfolding KeepsOthers
others_stay eq test old new h = h

module _ {A : Type 0} (host : List ℕ) where
  apart : (other : List ℕ) → bytes_eq host other ≡ false → (key : Vec ℕ A) → is_eq (host_cmp host key) ≡ true → is_eq (host_cmp other key) ≡ false
  apart other differ key at = is_eq-slice_cmp other key.items ∙ nat_list_eq_equiv.symm other key.items ∙ sym (nat_list_eq_equiv.congr host key.items other (sym (is_eq-slice_cmp host key.items) ∙ at)) ∙ differ

  -- what one host's entry has become, the others' are as before
  pub host_set : {X : Type 0} (m n : BTreeMap (Vec ℕ A) X) (w : Option X) → UpdatesBy key_cmp (host_cmp host) m n w → (other : List ℕ) → get_by (host_cmp other) n ≡ cond (bytes_eq host other) w (get_by (host_cmp other) m)
  host_set {X} m n w h other = by (bytes_eq host other) refl
    where
      by : (b : Bool) → bytes_eq host other ≡ b → get_by (host_cmp other) n ≡ cond b w (get_by (host_cmp other) m)
      by true same = rw (← (bytes_eq-Decides host other).0 same) h.1
      by false differ = others_stay _ _ _ _ h.3 _ (λ x y. (eq_by_cmp_equiv nat_list_cmp_total).congr other x.items y.items) (apart other differ)

-- the place that ports have, if they are there
abbrev pub port_place : Option (BTreeMap ℕ ℕ) → ℕ → Option ℕ
port_place ports port = option_and_then (λ (m : BTreeMap ℕ ℕ). get nat_cmp m port) ports

-- one address more, unless it is there
pub added : {A : Type 0} (m n : BTreeMap (Vec ℕ A) (BTreeMap ℕ ℕ)) (host : List ℕ) (ports : BTreeMap ℕ ℕ) (port place : ℕ) → UpdatesBy key_cmp (host_cmp host) m n (Some ports)
    → ((other : ℕ) → get nat_cmp ports other ≡ option_or (port_place (get_by (host_cmp host) m) other) (cond (port == other) (Some place) None))
    → (other : Address) → place_at n other ≡ option_or (place_at m other) (cond (bytes_eq host other.host && (port == other.port)) (Some place) None)
added m n host ports port place h new other = rw (host_set host m n (Some ports) h other.host) (by (bytes_eq host other.host) refl)
  where
    by : (b : Bool) → bytes_eq host other.host ≡ b → port_place (cond b (Some ports) (get_by (host_cmp other.host) m)) other.port
        ≡ option_or (place_at m other) (cond (b && (port == other.port)) (Some place) None)
    by true same = subst (λ x. get nat_cmp ports other.port ≡ option_or (port_place (get_by (host_cmp x) m) other.port) (cond (port == other.port) (Some place) None)) ((bytes_eq-Decides host other.host).0 same) (new other.port)
    by false differ = sym (or_none (place_at m other))

-- the place, if one of these sources has the address
abbrev pub among_sources : {A : Type 0} → ℕ → List ℕ → List (Source A) → Address → Option ℕ
among_sources place host sources address = cond (bytes_eq host address.host && list_any (λ source. source.port == address.port) sources) (Some place) None

pub sources_step : {A : Type 0} (place : ℕ) (host : List ℕ) (source : Source A) (sources : List (Source A)) (address : Address)
    → among_sources place host (source ∷ sources) address ≡ option_or (cond (bytes_eq host address.host && (source.port == address.port)) (Some place) None) (among_sources place host sources address)
sources_step place host source sources address = by (bytes_eq host address.host) (source.port == address.port) (list_any (λ s. s.port == address.port) sources)
  where
    by : (a b c : Bool) → cond (a && (b || c)) (Some place) None ≡ option_or (cond (a && b) (Some place) None) (cond (a && c) (Some place) None)
    by true true c = refl
    by true false c = refl
    by false b c = refl

any_found : {X : Type 0} (test : X → Bool) (xs : List X) → list_any test xs ≡ is_some (find test xs)
any_found test [] = refl
any_found test (x ∷ xs) = by (test x) (any_found test xs)
  where
    by : (b : Bool) → list_any test xs ≡ is_some (find test xs) → (b || list_any test xs) ≡ is_some (cond b (Some x) (find test xs))
    by true more = refl
    by false more = more

pub no_sources : (A : Type 0) (place : ℕ) (host : List ℕ) (address : Address) → among_sources {A = A} place host [] address ≡ None
no_sources A place host address = by (bytes_eq host address.host)
  where
    by : (a : Bool) → cond (a && false) (Some place) None ≡ None
    by true = refl
    by false = refl

pub all_sources : {A : Type 0} (place : ℕ) (node : Node A) (address : Address) → among_sources place (string_bytes node.host) node.relay.sources.items address ≡ cond (has_source node address) (Some place) None
all_sources place node address = rw (any_found (λ s. s.port == address.port) node.relay.sources.items) (by (bytes_eq (string_bytes node.host) address.host) (source_of_port node.relay address.port))
  where
    by : {Y : Type 0} (a : Bool) (o : Option Y) → cond (a && is_some o) (Some place) None ≡ cond (is_some (cond a o None)) (Some place) None
    by true o = refl
    by false o = refl

-- the first source is where the first place says
pub found_source : {A : Type 0} (f : ℕ → Option (Node A)) (place : ℕ) (nodes : List (Node A)) (address : Address) → ((i : ℕ) → f (place + i) ≡ slice_get nodes i)
    → option_and_then (λ p. option_and_then (λ (node : Node A). option_map (λ source. (p, source)) (source_of_port node.relay address.port)) (f p)) (among_nodes place nodes address)
    ≡ first_source place nodes address
found_source f place [] address at = refl
found_source {A} f place (node ∷ nodes) address at =
    by (bytes_eq (string_bytes node.host) address.host) (source_of_port node.relay address.port) refl (found_source f (suc place) nodes address (λ i. ap f (omega arith) ∙ at (suc i)))
  where
    look : ℕ → Option (ℕ × Source A)
    look p = option_and_then (λ (node : Node A). option_map (λ source. (p, source)) (source_of_port node.relay address.port)) (f p)

    here : f place ≡ Some node
    here = ap f (omega arith) ∙ at 0

    by : (b : Bool) (o : Option (Source A)) → source_of_port node.relay address.port ≡ o
        → option_and_then look (among_nodes (suc place) nodes address) ≡ first_source (suc place) nodes address
        → option_and_then look (cond (is_some (cond b o None)) (Some place) (among_nodes (suc place) nodes address))
        ≡ option_or (option_map (λ source. (place, source)) (cond b o None)) (first_source (suc place) nodes address)
    by true (Some s) is more = rw (here, is) refl
    by true None is more = more
    by false o is more = more

module _ {A : Type 0} (nodes : List (Node A)) (address : Address) where
  -- what stands at a place of them
  abbrev pub seen_at : ℕ → Option (ℕ × Source A)
  seen_at p = option_and_then (λ (node : Node A). option_map (λ source. (p, source)) (source_of_port node.relay address.port)) (slice_get nodes p)

  seen : (place : Option ℕ) → place ≡ among_nodes 0 nodes address → option_and_then seen_at place ≡ first_source 0 nodes address
  seen place is = ap (option_and_then seen_at) is ∙ found_source (slice_get nodes) 0 nodes address (λ i. ap (slice_get nodes) (omega arith))

  pub no_place : None ≡ among_nodes 0 nodes address → None ≡ first_source 0 nodes address
  no_place is = seen None is

  pub no_node : (p : ℕ) → Some p ≡ among_nodes 0 nodes address → slice_get nodes p ≡ None → None ≡ first_source 0 nodes address
  no_node p is none = sym (ap (option_and_then (λ (node : Node A). option_map (λ source. (p, source)) (source_of_port node.relay address.port))) none) ∙ seen (Some p) is

  pub at_node : (p : ℕ) (node : Node A) (source : Option (Source A)) → Some p ≡ among_nodes 0 nodes address → slice_get nodes p ≡ Some node → source ≡ source_of_port node.relay address.port
      → option_map (λ s. (p, s)) source ≡ first_source 0 nodes address
  at_node p node source is found same =
      ap (option_map (λ s. (p, s))) same ∙ sym (ap (option_and_then (λ (n : Node A). option_map (λ s. (p, s)) (source_of_port n.relay address.port))) found) ∙ seen (Some p) is
