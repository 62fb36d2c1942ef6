-- What is written of each of a list, one after another.
use Rattle.std.proofs.Common.{ℕ, ◌≡◌, ◌<◌, ◌≤◌, ◌+◌, List, [], ◌∷◌, ◌++◌, get_or, length, take, fold, ap, subst, sym, ◌∙◌}
use Rattle.std.specs.List.{flat_map}
use Rattle.std.proofs.lemmas.List.{flat_map_more, take_all, take_more}
use Rattle.std.proofs.lemmas.List.Sums.{fold_more}
use Rattle.json.specs.Token.{Token}
use Rattle.json.specs.Written.{Written}
use Rattle.folder_counts.specs.Object.{Becomes}
use Rattle.folder_counts.proofs.Written.{then_becomes}

-- ---- in a text

-- one more
pub rows_more : {X : Type 0} (f : X → List ℕ) (xs : List X) (i : ℕ) (x : X) (old mid new : List ℕ) → i < length xs → x ≡ get_or xs i x → mid ≡ old ++ flat_map f (take i xs) → new ≡ mid ++ f x
    → new ≡ old ++ flat_map f (take (i + 1) xs)
rows_more f xs i x old mid new more is so_far next =
    next ∙ ap (λ z. z ++ f x) so_far ∙ flat_map_more f old (take i xs) x ∙ ap (λ z. old ++ flat_map f z) (ap (λ z. take i xs ++ z ∷ []) is ∙ sym (take_more xs i x more))

-- none is left
pub rows_end : {X : Type 0} (f : X → List ℕ) (xs : List X) (i : ℕ) (old new : List ℕ) → length xs ≤ i → new ≡ old ++ flat_map f (take i xs) → new ≡ old ++ flat_map f xs
rows_end f xs i old new all so_far = so_far ∙ ap (λ z. old ++ flat_map f z) (take_all i xs all)

-- ---- in tokens

-- one more
pub each_more : {X : Type 0} (f : List Token → X → List Token) (xs : List X) (i : ℕ) (x : X) (old mid new : Written) → i < length xs → x ≡ get_or xs i x
    → Becomes old mid (fold f old.tokens (take i xs)) → Becomes mid new (f mid.tokens x) → Becomes old new (fold f old.tokens (take (i + 1) xs))
each_more f xs i x old mid new more is so_far next =
    let tokens = fold f old.tokens (take i xs) in
    subst (Becomes old new) (ap (f tokens) is ∙ sym (fold_more f old.tokens xs i x more)) (then_becomes old mid new tokens (λ z. f z x) so_far next)

-- none is left
pub each_end : {X : Type 0} (f : List Token → X → List Token) (xs : List X) (i : ℕ) (old new : Written) → length xs ≤ i → Becomes old new (fold f old.tokens (take i xs))
    → Becomes old new (fold f old.tokens xs)
each_end f xs i old new all so_far = subst (λ z. Becomes old new (fold f old.tokens z)) (take_all i xs all) so_far
