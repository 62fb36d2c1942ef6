-- A list that grows by all of which something holds.
use Rattle.std.proofs.Common.{◌≡◌, ℕ, List, [], ◌∷◌, ◌++◌, refl, sym, ap, ◌∙◌, ◌⊎◌, inl, inr, arith, Contains, append_assoc, subst}
use Rattle.std.proofs.lemmas.List.{append-nil}
use Rattle.std.proofs.lemmas.List.Elements.{Contains-append_cases, Contains-append_left, Contains-append_right}
use Rattle.route_graph.proofs.Members.{nil-none}
use Rattle.relay_net.specs.Arrivals.{Grows, Through}
use Rattle.relay_net.specs.declared.arrival.Arrival.{Arrival}

pub only_in : {X : Type 0} (x y : X) → Contains (x ∷ []) y → y ≡ x
only_in x y c = let e : c.0 ≡ 0 = (let less = c.1 in omega arith) in sym (rw e at c.2)

pub first_in : {X : Type 0} (x : X) → Contains (x ∷ []) x
first_in x = (0, omega arith, refl)

-- what was there is there
pub still : (P : Arrival → Type 0) (old new : List Arrival) → Grows P old new → (a : Arrival) → Contains old a → Contains new a
still P old new g a c = rw g.new_is (Contains-append_left old g.more a c)

-- what is there was there, or this holds of it
pub either : (P : Arrival → Type 0) (old new : List Arrival) → Grows P old new → (a : Arrival) → Contains new a → Contains old a ⊎ P a
either P old new g a c = elim (Contains-append_cases old g.more a (rw g.new_is at c)) [
  | inl before ↦ inl before
  | inr added ↦ inr (g.only a added)
]

-- nothing came yet
pub grows_none : {X : Type 0} (P : X → Arrival → Type 0) (old : List Arrival) → Grows (Through P []) old old
grows_none P old = record {
  more = [];
  new_is = sym (append-nil old);
  only = λ a c. absurd (nil-none a c);
  all = λ a h. absurd (nil-none h.0 h.1);
}

-- what comes through one more thing came
pub grows_more : {X : Type 0} (P : X → Arrival → Type 0) (xs : List X) (x : X) (old mid new : List Arrival) → Grows (Through P xs) old mid → Grows (P x) mid new → Grows (Through P (xs ++ x ∷ [])) old new
grows_more P xs x old mid new g h = record {
  more = g.more ++ h.more;
  new_is = h.new_is ∙ ap (λ (l : List Arrival). l ++ h.more) g.new_is ∙ append_assoc old g.more h.more;
  only = λ a c. elim (Contains-append_cases g.more h.more a c) [
    | inl before ↦ (let t = g.only a before in (t.0, Contains-append_left xs (x ∷ []) t.0 t.1, t.2))
    | inr added ↦ (x, Contains-append_right xs (x ∷ []) x (first_in x), h.only a added)
  ];
  all = λ a t. elim (Contains-append_cases xs (x ∷ []) t.0 t.1) [
    | inl before ↦ still (P x) mid new h a (g.all a (t.0, before, t.2))
    | inr last ↦ h.all a (subst (λ y. P y a) (only_in x t.0 last) t.2)
  ];
}

-- the same holds in other words
pub grows_as : (P Q : Arrival → Type 0) (old new : List Arrival) → ((a : Arrival) → P a → Q a) → ((a : Arrival) → Q a → P a) → Grows P old new → Grows Q old new
grows_as P Q old new to from g = record { more = g.more; new_is = g.new_is; only = λ a c. to a (g.only a c); all = λ a q. g.all a (from a q) }

-- nothing comes
pub grows_never : (P : Arrival → Type 0) (old : List Arrival) → ((a : Arrival) → P a → ⊥) → Grows P old old
grows_never P old never = record { more = []; new_is = sym (append-nil old); only = λ a c. absurd (nil-none a c); all = λ a p. absurd (never a p) }

-- what comes is there already
pub grows_there : (P : Arrival → Type 0) (old : List Arrival) → ((a : Arrival) → P a → Contains old a) → Grows P old old
grows_there P old there = record { more = []; new_is = sym (append-nil old); only = λ a c. absurd (nil-none a c); all = there }

-- one more came, which wasn't there
pub grows_one : (old : List Arrival) (a : Arrival) → Grows (λ other. a ≡ other) old (old ++ a ∷ [])
grows_one old a = record {
  more = a ∷ [];
  new_is = refl;
  only = λ other c. sym (only_in a other c);
  all = λ other e. subst (λ x. Contains (old ++ a ∷ []) x) e (Contains-append_right old (a ∷ []) a (first_in a));
}
