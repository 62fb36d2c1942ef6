-- Going over things until one fails a test, or passes it.
use Rattle.std.proofs.Common.{◌≡◌, ◌+◌, ◌<◌, ◌≤◌, ◌&&◌, ◌||◌, ℕ, Bool, true, false, List, ap, drop, get_or, length, map, sym, ◌∙◌}
use Rattle.std.specs.List.{list_all, list_any}
use Rattle.std.proofs.lemmas.List.{at_drop_all, at_drop_more}
use Rattle.std.proofs.lemmas.List.Folds.{list_all_at, list_any_at}

-- one fails it
pub one_fails : {X : Type 0} (p : X → Bool) (xs : List X) (i : ℕ) (x : X) → i < length xs → x ≡ get_or xs i x → p x ≡ false → false ≡ list_all p xs
one_fails p xs i x less at fails = sym (list_all_at p xs i x less (ap p (sym at) ∙ fails))

-- one more passes it
pub one_more : {X : Type 0} (p : X → Bool) (xs : List X) (i : ℕ) (x : X) → i < length xs → x ≡ get_or xs i x → p x ≡ true → list_all p (drop i xs) ≡ list_all p xs → list_all p (drop (i + 1) xs) ≡ list_all p xs
one_more p xs i x less at passes so_far = sym (at_drop_more (list_all p) xs i x less ∙ ap (λ b. b && list_all p (drop (i + 1) xs)) (ap p (sym at) ∙ passes)) ∙ so_far

-- all pass it
pub all_pass : {X : Type 0} (p : X → Bool) (xs : List X) (i : ℕ) → length xs ≤ i → list_all p (drop i xs) ≡ list_all p xs → true ≡ list_all p xs
all_pass p xs i past so_far = sym (at_drop_all (list_all p) xs i past) ∙ so_far

-- one passes it
pub one_passes : {X : Type 0} (p : X → Bool) (xs : List X) (i : ℕ) (x : X) → i < length xs → x ≡ get_or xs i x → p x ≡ true → true ≡ list_any p xs
one_passes p xs i x less at passes = sym (list_any_at p xs i x less (ap p (sym at) ∙ passes))

-- one more fails it
pub none_more : {X : Type 0} (p : X → Bool) (xs : List X) (i : ℕ) (x : X) → i < length xs → x ≡ get_or xs i x → p x ≡ false → list_any p (drop i xs) ≡ list_any p xs → list_any p (drop (i + 1) xs) ≡ list_any p xs
none_more p xs i x less at fails so_far = sym (at_drop_more (list_any p) xs i x less ∙ ap (λ b. b || list_any p (drop (i + 1) xs)) (ap p (sym at) ∙ fails)) ∙ so_far

-- all fail it
pub none_passes : {X : Type 0} (p : X → Bool) (xs : List X) (i : ℕ) → length xs ≤ i → list_any p (drop i xs) ≡ list_any p xs → false ≡ list_any p xs
none_passes p xs i past so_far = sym (at_drop_all (list_any p) xs i past) ∙ so_far

-- what stands for one passes it
pub one_passes_as : {X Y : Type 0} (f : X → Y) (p : Y → Bool) (xs : List X) (i : ℕ) (x : X) (r : Bool) → i < length xs → x ≡ get_or xs i x → p (f x) ≡ true → list_any p (map f (drop i xs)) ≡ r → true ≡ r
one_passes_as f p xs i x r less at passes so_far =
    sym (at_drop_more (λ ys. list_any p (map f ys)) xs i x less ∙ ap (λ b. b || list_any p (map f (drop (i + 1) xs))) (ap (λ y. p (f y)) (sym at) ∙ passes)) ∙ so_far

-- what stands for one more fails it
pub none_more_as : {X Y : Type 0} (f : X → Y) (p : Y → Bool) (xs : List X) (i : ℕ) (x : X) (r : Bool) → i < length xs → x ≡ get_or xs i x → p (f x) ≡ false → list_any p (map f (drop i xs)) ≡ r → list_any p (map f (drop (i + 1) xs)) ≡ r
none_more_as f p xs i x r less at fails so_far =
    sym (at_drop_more (λ ys. list_any p (map f ys)) xs i x less ∙ ap (λ b. b || list_any p (map f (drop (i + 1) xs))) (ap (λ y. p (f y)) (sym at) ∙ fails)) ∙ so_far

-- what stands for each fails it
pub none_passes_as : {X Y : Type 0} (f : X → Y) (p : Y → Bool) (xs : List X) (i : ℕ) (r : Bool) → length xs ≤ i → list_any p (map f (drop i xs)) ≡ r → false ≡ r
none_passes_as f p xs i r past so_far = sym (at_drop_all (λ ys. list_any p (map f ys)) xs i past) ∙ so_far
