-- A value that stands for an item stands for it at each greater depth too.
use Rattle.std.proofs.Common.{ℕ, zero, suc, ◌≡◌, ◌≤◌, ◌⊎◌, List, [], ◌∷◌, inl, inr, ⊎_elim, sym, subst, arith}
use Rattle.std.proofs.lemmas.Bool.{cases_eq}
use Rattle.json.specs.Token.{Token}
use Rattle.msgpack_bytes.specs.Containers.{Pair}
use Rattle.event_listing.specs.Json.{AreJson, AreMembers, ArePairs, IsScalarJson, IsArrayJson, IsMapJson, Object, Pairs, IsJsonWithin}

-- such values are others too
abbrev Follows : (List ℕ → List Token → Type 0) → (List ℕ → List Token → Type 0) → Type 0
Follows P Q = (item : List ℕ) (ts : List Token) → P item ts → Q item ts

values_as : (P Q : List ℕ → List Token → Type 0) → Follows P Q → (items : List (List ℕ)) (ts : List Token) → AreJson P items ts → AreJson Q items ts
values_as P Q f [] ts are = are
values_as P Q f (item ∷ items) ts are = (are.0, are.1, f item are.0 are.2, values_as P Q f items are.1 are.3, are.4)

members_as : (P Q : List ℕ → List Token → Type 0) → Follows P Q → (pairs : List Pair) (ts : List Token) → AreMembers P pairs ts → AreMembers Q pairs ts
members_as P Q f [] ts are = are
members_as P Q f (pair ∷ pairs) ts are = (are.0, are.1, are.2, are.3, f pair.value are.1 are.4, members_as P Q f pairs are.2 are.5, are.6)

pairs_as : (P Q : List ℕ → List Token → Type 0) → Follows P Q → (pairs : List Pair) (ts : List Token) → ArePairs P pairs ts → ArePairs Q pairs ts
pairs_as P Q f [] ts are = are
pairs_as P Q f (pair ∷ pairs) ts are = (are.0, are.1, are.2, f pair.key are.0 are.3, f pair.value are.1 are.4, pairs_as P Q f pairs are.2 are.5, are.6)

array_as : (P Q : List ℕ → List Token → Type 0) → Follows P Q → Follows (IsArrayJson P) (IsArrayJson Q)
array_as P Q f item ts a = record { items = a.items; array = a.array; values = a.values; each = values_as P Q f a.items a.values a.each; whole = a.whole }

map_as : (P Q : List ℕ → List Token → Type 0) → Follows P Q → Follows (IsMapJson P) (IsMapJson Q)
map_as P Q f item ts (Object pairs members map each whole) = Object pairs members map (members_as P Q f pairs members each) whole
map_as P Q f item ts (Pairs pairs values map none each whole) = Pairs pairs values map none (pairs_as P Q f pairs values each) whole

one_deeper : (depth : ℕ) → Follows (IsJsonWithin depth) (IsJsonWithin (suc depth))
unfolding IsJsonWithin
one_deeper zero item ts is = inl is
one_deeper (suc depth) item ts (inl scalar) = inl scalar
one_deeper (suc depth) item ts (inr (inl array)) = inr (inl (array_as (IsJsonWithin depth) (IsJsonWithin (suc depth)) (one_deeper depth) item ts array))
one_deeper (suc depth) item ts (inr (inr map)) = inr (inr (map_as (IsJsonWithin depth) (IsJsonWithin (suc depth)) (one_deeper depth) item ts map))

pub deeper : (depth more : ℕ) → depth ≤ more → Follows (IsJsonWithin depth) (IsJsonWithin more)
deeper depth zero le item ts is = let e : depth ≡ zero = omega (arith, le) in subst (λ (k : ℕ). IsJsonWithin k item ts) e is
deeper depth (suc more) le item ts is = ⊎_elim
    (λ same. subst (λ (k : ℕ). IsJsonWithin k item ts) same is)
    (λ other. one_deeper more item ts (deeper depth more (omega (arith, le, other)) item ts is))
    (cases_eq depth (suc more))

-- the value of a scalar, of an array, and of a map, at a depth that is enough
pub scalar_within : (depth : ℕ) (item : List ℕ) (ts : List Token) → IsScalarJson item ts → IsJsonWithin depth item ts
unfolding IsJsonWithin
scalar_within zero item ts is = is
scalar_within (suc depth) item ts is = inl is

array_deeper : (inner : ℕ) → Follows (IsArrayJson (IsJsonWithin inner)) (IsJsonWithin (suc inner))
unfolding IsJsonWithin
array_deeper inner item ts is = inr (inl is)

map_deeper : (inner : ℕ) → Follows (IsMapJson (IsJsonWithin inner)) (IsJsonWithin (suc inner))
unfolding IsJsonWithin
map_deeper inner item ts is = inr (inr is)

pub array_within : (inner depth : ℕ) (item : List ℕ) (ts : List Token) → suc inner ≤ depth → IsArrayJson (IsJsonWithin inner) item ts → IsJsonWithin depth item ts
array_within inner depth item ts le is = deeper (suc inner) depth le item ts (array_deeper inner item ts is)

pub map_within : (inner depth : ℕ) (item : List ℕ) (ts : List Token) → suc inner ≤ depth → IsMapJson (IsJsonWithin inner) item ts → IsJsonWithin depth item ts
map_within inner depth item ts le is = deeper (suc inner) depth le item ts (map_deeper inner item ts is)
