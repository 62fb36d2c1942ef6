-- The lines of a text, one after another.
use Rattle.std.proofs.Common.{◌≡◌, ℕ, zero, suc, ◌+◌, ◌<◌, List, [], ◌∷◌, ◌++◌, length, get_or, take, Some, slice_get, refl, sym, ap, ◌∙◌, arith}
use Rattle.std.specs.Str.Lines.{strip_carriage_return}
use Rattle.std.proofs.lemmas.List.{take_more}
use Rattle.std.proofs.lemmas.Option.{get_or_from_slice_get, slice_get_within}
use Rattle.text_lines.specs.Lines.{lines_of_pieces}

-- a line that isn't the last stands without its CR
pub lines_of_inner : (pieces : List (List ℕ)) (at : ℕ) (piece : List ℕ) → at + 1 < length pieces → piece ≡ get_or pieces at piece → slice_get (lines_of_pieces pieces) at ≡ Some (strip_carriage_return piece)
lines_of_inner [] at piece h e = absurd (omega arith)
lines_of_inner (x ∷ []) at piece h e = absurd (omega arith)
lines_of_inner (x ∷ y ∷ more) zero piece h e = ap (λ p. Some (strip_carriage_return p)) (sym e)
lines_of_inner (x ∷ y ∷ more) (suc at) piece h e = lines_of_inner (y ∷ more) at piece (omega arith) e

-- the last line stands as it is
pub lines_of_last : (pieces : List (List ℕ)) (at : ℕ) (piece : List ℕ) → at + 1 ≡ length pieces → piece ≡ get_or pieces at piece → slice_get (lines_of_pieces pieces) at ≡ Some piece
lines_of_last [] at piece h e = absurd (omega arith)
lines_of_last (x ∷ []) zero piece h e = ap Some (sym e)
lines_of_last (x ∷ []) (suc at) piece h e = absurd (omega arith)
lines_of_last (x ∷ y ∷ more) zero piece h e = absurd (omega arith)
lines_of_last (x ∷ y ∷ more) (suc at) piece h e = lines_of_last (y ∷ more) at piece (omega arith) e

pub length-lines_of_pieces : (pieces : List (List ℕ)) → length (lines_of_pieces pieces) ≡ length pieces
length-lines_of_pieces [] = refl
length-lines_of_pieces (x ∷ []) = refl
length-lines_of_pieces (x ∷ y ∷ more) = ap suc (length-lines_of_pieces (y ∷ more))

-- the front of a list with the element at its end
pub one_longer : {X : Type 0} (xs : List X) (at : ℕ) (x : X) → slice_get xs at ≡ Some x → take (at + 1) xs ≡ take at xs ++ x ∷ []
one_longer xs at x e = take_more xs at x (slice_get_within xs at x e) ∙ ap (λ y. take at xs ++ y ∷ []) (get_or_from_slice_get xs at x x e)
