-- Loops over the pieces of a text.
use Rattle.std.proofs.Common.{◌≡◌, ℕ, ◌+◌, ◌-◌, ◌<◌, suc, List, [], ◌∷◌, length, drop, IfSome, Option, Some, None, sym, ap, ◌∙◌, arith, length-drop}
use Rattle.std.proofs.lemmas.List.{drop-drop}

-- how much is left of what stands behind a separator
abbrev pub left : Option (List ℕ) → ℕ
left None = 0
left (Some rest) = suc (length rest)

-- one more piece is passed
pub piece_passed : (all rest : List (List ℕ)) (n : ℕ) (piece : List ℕ) (more : List (List ℕ)) → rest ≡ drop n all → rest ≡ piece ∷ more → more ≡ drop (n + 1) all
piece_passed all rest n piece more from is = sym (sym (drop-drop 1 n all) ∙ ap (drop 1) (sym from ∙ is))

-- the last piece is not passed
pub piece_left : (all rest : List (List ℕ)) (n number : ℕ) (piece : List ℕ) → rest ≡ drop n all → rest ≡ piece ∷ [] → n < number → number < length all → ⊥
piece_left all rest n number piece from is below within =
    let one : 1 ≡ length all - n = sym (ap length is) ∙ (ap length from ∙ length-drop n all) in omega arith

pub left_less : (rest : Option (List ℕ)) (text : List ℕ) → IfSome rest (λ r. length r < length text) → left rest < suc (length text)
left_less None text h = omega arith
left_less (Some r) text h = omega arith
