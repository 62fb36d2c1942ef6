-- A list to which all is added of which something holds.
use Rattle.std.proofs.Common.{◌≡◌, ◌≢◌, ◌<◌, ℕ, List, [], ◌∷◌, ◌++◌, length, get_or, sym, refl, ap, ◌∙◌, ◌⊎◌, inl, inr, subst, append_assoc, AllPairs, Contains}
use Rattle.std.proofs.lemmas.List.{append-nil, get_or_default}
use Rattle.std.proofs.lemmas.List.Elements.{Contains-append_cases, Contains-append_left, Contains-append_right}
use Rattle.std.proofs.lemmas.List.Quantifiers.{all_pairs_push}
use Rattle.route_graph.proofs.Members.{nil-none}
use Rattle.relay_net.proofs.Growing.{only_in, first_in}
use Rattle.way_listing.specs.Sendings.{Adds, Through}

-- what was there is there
pub still : {X : Type 0} (P : X → Type 0) (old new : List X) → Adds P old new → (x : X) → Contains old x → Contains new x
still P old new adds x c = rw adds.new_is (Contains-append_left old adds.more x c)

-- what is there was there, or this holds of it
pub either : {X : Type 0} (P : X → Type 0) (old new : List X) → Adds P old new → (x : X) → Contains new x → Contains old x ⊎ P x
either P old new adds x c = elim (Contains-append_cases old adds.more x (rw adds.new_is at c)) [
  | inl before ↦ inl before
  | inr added ↦ inr (adds.only x added)
]

-- what is added is there already
pub adds_there : {X : Type 0} (P : X → Type 0) (old : List X) → ((x : X) → P x → Contains old x) → Adds P old old
adds_there P old there = record { more = []; new_is = sym (append-nil old); only = λ x c. absurd (nil-none x c); all = there; once = λ once. once }

-- there is nothing to add
pub adds_never : {X : Type 0} (P : X → Type 0) (old : List X) → ((x : X) → P x → ⊥) → Adds P old old
adds_never P old never = adds_there P old (λ x p. absurd (never x p))

-- one more, which wasn't there
pub adds_one : {X : Type 0} (old : List X) (a : X) → (Contains old a → ⊥) → Adds (λ other. a ≡ other) old (old ++ a ∷ [])
adds_one {X} old a new = record {
  more = a ∷ [];
  new_is = refl;
  only = λ x c. sym (only_in a x c);
  all = λ x e. subst (λ y. Contains (old ++ a ∷ []) y) e (Contains-append_right old (a ∷ []) a (first_in a));
  once = λ once. all_pairs_push (λ (one : X) (other : X). one ≢ other) old a once (λ k d less e. new (k, less, get_or_default old k a d less ∙ e));
}

-- nothing was gone through yet
pub adds_none : {X Y : Type 0} (P : X → Y → Type 0) (old : List Y) → Adds (Through P []) old old
adds_none P old = adds_never (Through P []) old (λ y h. absurd (nil-none h.0 h.1))

-- one more was gone through
pub adds_more : {X Y : Type 0} (P : X → Y → Type 0) (xs : List X) (x : X) (old mid new : List Y) → Adds (Through P xs) old mid → Adds (P x) mid new → Adds (Through P (xs ++ x ∷ [])) old new
adds_more P xs x old mid new g h = record {
  more = g.more ++ h.more;
  new_is = h.new_is ∙ ap (λ l. l ++ h.more) g.new_is ∙ append_assoc old g.more h.more;
  only = λ y c. elim (Contains-append_cases g.more h.more y c) [
    | inl before ↦ (let t = g.only y before in (t.0, Contains-append_left xs (x ∷ []) t.0 t.1, t.2))
    | inr added ↦ (x, Contains-append_right xs (x ∷ []) x (first_in x), h.only y added)
  ];
  all = λ y t. elim (Contains-append_cases xs (x ∷ []) t.0 t.1) [
    | inl before ↦ still (P x) mid new h y (g.all y (t.0, before, t.2))
    | inr last ↦ h.all y (subst (λ z. P z y) (only_in x t.0 last) t.2)
  ];
  once = λ once. h.once (g.once once);
}

-- the same in other words
pub adds_as : {X : Type 0} (P Q : X → Type 0) (old new : List X) → ((x : X) → P x → Q x) → ((x : X) → Q x → P x) → Adds P old new → Adds Q old new
adds_as P Q old new to from a = record { more = a.more; new_is = a.new_is; only = λ x c. to x (a.only x c); all = λ x q. a.all x (from x q); once = a.once }
