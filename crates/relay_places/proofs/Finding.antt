-- What stands at a place of lists that are joined.
use Rattle.std.proofs.Common.{◌≡◌, ℕ, zero, suc, ◌+◌, ◌-◌, List, [], ◌∷◌, ◌++◌, length, map, take, Some, ap, ◌∙◌, arith}
use Rattle.std.specs.List.{slice_get, slice_range}
use Rattle.std.proofs.lemmas.List.{take_at, drop_at}
use Rattle.std.proofs.lemmas.Option.{none-some, slice_get-map}

module _ {X : Type 0} where
  -- in the first of two lists
  pub get_left : (xs ys : List X) (k : ℕ) (x : X) → slice_get xs k ≡ Some x
      → slice_get (xs ++ ys) k ≡ Some x
  get_left [] ys k x h = absurd (none-some x h)
  get_left (y ∷ xs) ys zero x h = h
  get_left (y ∷ xs) ys (suc k) x h = get_left xs ys k x h

  -- in the second
  pub get_right : (xs ys : List X) (k : ℕ) → slice_get (xs ++ ys) (length xs + k) ≡ slice_get ys k
  get_right [] ys k = ap (slice_get ys) (omega arith)
  get_right (y ∷ xs) ys k =
      let next : length (y ∷ xs) + k ≡ suc (length xs + k) = omega arith in
      ap (slice_get ((y ∷ xs) ++ ys)) next ∙ get_right xs ys k

  -- a list that stands between two others
  pub range_between : (front list back : List X) (first end : ℕ) → length front ≡ first
      → end ≡ first + length list → slice_range (front ++ (list ++ back)) first end ≡ list
  range_between front list back first end f e =
      let long : length list ≡ end - first = omega arith in
      ap (take (end - first)) (drop_at front (list ++ back) first f)
      ∙ take_at list back (end - first) long

-- what a function gives of an element of a list behind another
pub named : {X Y : Type 0} (f : X → Y) (front : List Y) (list : List X) (place k : ℕ) (x : X)
    → slice_get list k ≡ Some x → place ≡ length front + k
    → slice_get (front ++ map f list) place ≡ Some (f x)
named f front list place k x h at =
    ap (slice_get (front ++ map f list)) at
    ∙ get_right front (map f list) k
    ∙ slice_get-map f list k
    ∙ (rw h)
