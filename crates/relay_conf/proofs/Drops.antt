-- Going over a list from the front.
use Rattle.std.proofs.Common.{◌≡◌, ℕ, ◌+◌, ◌<◌, List, ◌∷◌, length, get_or, drop, sym, ap, ◌∙◌, refl, add-one}
use Rattle.std.proofs.Math.Seq.{drop-cons}

-- the element at k, and those behind it
pub drop_here : {X : Type 0} (xs : List X) (k : ℕ) (d : X) → k < length xs → drop k xs ≡ get_or xs k d ∷ drop (k + 1) xs
drop_here xs k d lt = rw (drop-cons xs k d lt, add-one k) refl

-- the same, where the element is known
pub drop_is : {X : Type 0} (xs : List X) (k : ℕ) (x : X) → k < length xs → x ≡ get_or xs k x → drop k xs ≡ x ∷ drop (k + 1) xs
drop_is {X} xs k x lt is = drop_here xs k x lt ∙ ap (λ (y : X). y ∷ drop (k + 1) xs) (sym is)
