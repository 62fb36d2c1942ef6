-- One buffer more.
use Rattle.std.proofs.Common.{ℕ, ◌≡◌, ◌∙◌, ◌+◌, ◌-◌, ◌<◌, arith, List, [], ◌∷◌, ◌++◌, map, ap}
use Rattle.std.proofs.lemmas.List.{map-append}

-- what f says of the lanes, with one more behind them
pub with_one : {L X : Type 0} (f : L → X) (lanes new : List L) (one : L) (was : List X) → map f lanes ≡ was → new ≡ lanes ++ one ∷ []
    → map f new ≡ was ++ f one ∷ []
with_one f lanes new one was is put = ap (map f) put ∙ map-append f lanes (one ∷ []) ∙ ap (λ (l : List _). l ++ f one ∷ []) is

-- there is room for one less
pub room_for_less : (capacity len room now many : ℕ) → capacity - len ≡ room → 0 < room → now ≡ capacity → many ≡ len + 1 → now - many + 1 ≡ room
room_for_less capacity len room now many is some same more = omega (arith, is, some, same, more)
