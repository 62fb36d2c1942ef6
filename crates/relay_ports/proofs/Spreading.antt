-- A list is gone through, and what f gives of each of its elements is added behind what there is.
use Rattle.std.proofs.Common.{◌≡◌, ◌∙◌, List, [], ◌∷◌, ◌++◌, ap, sym, append_assoc, append-nil}
use Rattle.std.specs.List.{flat_map}

pub spread : {S E : Type 0} (f : S → List E) (made made' : List E) (left left' : List S) (s : S) (whole : List E)
    → made' ≡ made ++ f s → left ≡ s ∷ left' → made ++ flat_map f left ≡ whole → made' ++ flat_map f left' ≡ whole
spread {S} {E} f made made' left left' s whole m l all =
    ap (λ (z : List E). z ++ flat_map f left') m ∙ append_assoc made (f s) (flat_map f left') ∙ ap (λ (z : List S). made ++ flat_map f z) (sym l) ∙ all

-- At its end all is there.
pub spread_whole : {S E : Type 0} (f : S → List E) (made : List E) (left : List S) (whole : List E) → left ≡ [] → made ++ flat_map f left ≡ whole → made ≡ whole
spread_whole {S} {E} f made left whole none all = sym (append-nil made) ∙ ap (λ (z : List S). made ++ flat_map f z) (sym none) ∙ all
