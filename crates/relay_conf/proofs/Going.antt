-- A test of each element, from the front.
use Rattle.std.proofs.Common.{◌≡◌, ℕ, ◌+◌, ◌<◌, ◌≤◌, Bool, true, false, ◌||◌, List, length, get_or, drop, map, sym, ap, ◌∙◌}
use Rattle.std.specs.List.{list_any}
use Rattle.std.proofs.lemmas.List.{drop_all}
use Rattle.relay_conf.proofs.Drops.{drop_is}

one_more : {X Y : Type 0} (test : Y → Bool) (v : X → Y) (xs : List X) (k : ℕ) (x : X) → k < length xs → x ≡ get_or xs k x → list_any test (map v (drop k xs)) ≡ (test (v x) || list_any test (map v (drop (k + 1) xs)))
one_more {X} test v xs k x lt is = ap (λ (ys : List X). list_any test (map v ys)) (drop_is xs k x lt is)

-- one that it isn't is passed over
pub none_here : {X Y : Type 0} (test : Y → Bool) (v : X → Y) (xs : List X) (k : ℕ) (x : X) (whole : Bool) → k < length xs → x ≡ get_or xs k x → false ≡ test (v x) → list_any test (map v (drop k xs)) ≡ whole
    → list_any test (map v (drop (k + 1) xs)) ≡ whole
none_here test v xs k x whole lt is other so_far =
    let rest = list_any test (map v (drop (k + 1) xs)) in
    ap (λ (b : Bool). b || rest) other ∙ sym (one_more test v xs k x lt is) ∙ so_far

-- one that it is settles it
pub one_here : {X Y : Type 0} (test : Y → Bool) (v : X → Y) (xs : List X) (k : ℕ) (x : X) (whole : Bool) → k < length xs → x ≡ get_or xs k x → true ≡ test (v x) → list_any test (map v (drop k xs)) ≡ whole → true ≡ whole
one_here test v xs k x whole lt is found so_far =
    let rest = list_any test (map v (drop (k + 1) xs)) in
    ap (λ (b : Bool). b || rest) found ∙ sym (one_more test v xs k x lt is) ∙ so_far

-- past the end there is none
pub none_at_end : {X Y : Type 0} (test : Y → Bool) (v : X → Y) (xs : List X) (k : ℕ) (whole : Bool) → length xs ≤ k → list_any test (map v (drop k xs)) ≡ whole → false ≡ whole
none_at_end {X} test v xs k whole past so_far = ap (λ (ys : List X). list_any test (map v ys)) (sym (drop_all k xs past)) ∙ so_far
