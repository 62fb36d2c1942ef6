-- A list whose first elements were changed, with one more.
use Rattle.std.proofs.Common.{◌≡◌, ℕ, ◌+◌, ◌<◌, ◌≤◌, List, [], ◌∷◌, ◌++◌, length, get_or, map, take, drop, set, sym, ap, ◌∙◌, arith}
use Rattle.std.proofs.lemmas.List.{append_assoc, append-nil, drop_all, drop_more, get_or_at, length-map, length-take-le, map_more, set_at, take_all}

module _ {X : Type 0} (f : X → X) (old rows : List X) (i : ℕ) where
  pub mapped_more : (y d : X) → i < length old → rows ≡ map f (take i old) ++ drop i old → y ≡ f (get_or rows i d)
      → set rows i y ≡ map f (take (i + 1) old) ++ drop (i + 1) old
  mapped_more y d h r e =
      let front = map f (take i old) in
      let one = get_or old i d in
      let rest = drop (i + 1) old in
      let long : length front ≡ i = length-map (take i old) f ∙ length-take-le i old (omega arith) in
      let split : rows ≡ front ++ one ∷ rest = r ∙ ap (λ (z : List X). front ++ z) (drop_more old i d h) in
      let here : get_or rows i d ≡ one = ap (λ (z : List X). get_or z i d) split ∙ get_or_at front one rest d i long in
      ap (λ (z : List X). set z i y) split
      ∙ set_at front one rest y i long
      ∙ ap (λ (z : X). front ++ z ∷ rest) (e ∙ ap f here)
      ∙ sym (append_assoc front (f one ∷ []) rest)
      ∙ ap (λ (z : List X). z ++ rest) (sym (map_more f old i d h))

  pub mapped_all : length old ≤ i → rows ≡ map f (take i old) ++ drop i old → rows ≡ map f old
  mapped_all h r = r ∙ (λ j. map f (take_all i old h j) ++ drop_all i old h j) ∙ append-nil (map f old)
