-- Relays that are looked up by their numbers.
use Rattle.std.proofs.Common.{◌≡◌, ℕ, ◌+◌, ◌≤◌, ◌==◌, not, Bool, true, false, cond, List, [], ◌∷◌, ◌++◌, length, slice_get, Option, Some, None, refl, ap, ◌∙◌, arith}
use Rattle.std.specs.Prelude.{find, position, nat_lt}
use Rattle.std.specs.List.{position_or_len}
use Rattle.std.specs.Option.{option_and_then, option_or}
use Rattle.std.proofs.lemmas.Grind.{common_steps}
use Rattle.std.proofs.lemmas.List.{length-append}
use Rattle.std.proofs.lemmas.List.Folds.{position_or_len_push, find_at}
use Rattle.std.proofs.lemmas.Option.{slice_get_past}
use Rattle.relay_net.specs.Network.{node_of, place_among}
use Rattle.relay_net.specs.declared.node.Node.{Node}

module _ {X : Type 0} (p : X → Bool) where
  at_most : (xs : List X) → position_or_len p xs ≤ length xs
  at_most [] = omega arith
  at_most (x ∷ xs) = by (p x) (at_most xs)
    where
      by : (b : Bool) → position_or_len p xs ≤ length xs → cond (not b) (1 + position_or_len p xs) 0 ≤ length (x ∷ xs)
      by true rest = omega arith
      by false rest = omega (arith, rest)

  abbrev place_at : ℕ → ℕ → Option ℕ
  place_at at n = cond (nat_lt at n) (Some at) None

  pushed : (b : Bool) (n at : ℕ) → at ≤ n → place_at (cond (at == n) (n + cond b 0 1) at) (n + 1) ≡ option_or (place_at at n) (cond b (Some n) None)
  pushed true n at less = grind (arith, common_steps)
  pushed false n at less = grind (arith, common_steps)

  position_push : (xs : List X) (y : X) → position p (xs ++ y ∷ []) ≡ option_or (position p xs) (cond (p y) (Some (length xs)) None)
  position_push xs y =
      ap (λ m. place_at m (length (xs ++ y ∷ []))) (position_or_len_push p xs y)
      ∙ ap (place_at (cond (position_or_len p xs == length xs) (length xs + cond (p y) 0 1) (position_or_len p xs))) (length-append xs (y ∷ []))
      ∙ pushed (p y) (length xs) (position_or_len p xs) (at_most xs)

  -- what is found is at its position
  found_at : (xs : List X) → find p xs ≡ option_and_then (slice_get xs) (position p xs)
  found_at xs = find_at p xs ∙ by (nat_lt (position_or_len p xs) (length xs)) refl
    where
      by : (b : Bool) → nat_lt (position_or_len p xs) (length xs) ≡ b → slice_get xs (position_or_len p xs) ≡ option_and_then (slice_get xs) (cond b (Some (position_or_len p xs)) None)
      by true e = refl
      by false e = slice_get_past xs (position_or_len p xs) (grind (arith, common_steps))

-- the place of a relay, when one more stands behind the others
pub place_more : {A : Type 0} (nodes : List (Node A)) (node : Node A) (number : ℕ) → place_among (nodes ++ node ∷ []) number ≡ option_or (place_among nodes number) (cond (node.number == number) (Some (length nodes)) None)
place_more nodes node number = position_push (λ node. node.number == number) nodes node

-- the relay that a number means stands at its place
pub node_there : {A : Type 0} (nodes : List (Node A)) (number : ℕ) → node_of nodes number ≡ option_and_then (slice_get nodes) (place_among nodes number)
node_there nodes number = found_at (λ node. node.number == number) nodes
