-- Taking the pieces of a text one after the other, as a loop does.
use Rattle.std.proofs.Common.{◌≡◌, ℕ, ◌+◌, ◌<◌, true, false, List, [], ◌∷◌, ◌++◌, length, get_or, drop, refl, sym, ap, ◌∙◌, append_assoc}
use Rattle.std.specs.Prelude.{filter}
use Rattle.std.specs.List.{flat_map}
use Rattle.relay_conf.specs.Examined.{is_word, tab_words}
use Rattle.relay_conf.proofs.Drops.{drop_here}

-- the piece at k, and those behind it
pub piece_here : (pieces : List (List ℕ)) (k : ℕ) (w : List ℕ) → (k < length pieces) × (w ≡ get_or pieces k w) → drop k pieces ≡ w ∷ drop (k + 1) pieces
piece_here pieces k w h = drop_here pieces k w h.0 ∙ ap (λ (x : List ℕ). x ∷ drop (k + 1) pieces) (sym h.1)

pub word_taken : (pieces : List (List ℕ)) (k : ℕ) (w : List ℕ) (front all : List (List ℕ)) → (k < length pieces) × (w ≡ get_or pieces k w) → is_word w ≡ true
    → front ++ filter is_word (drop k pieces) ≡ all → (front ++ w ∷ []) ++ filter is_word (drop (k + 1) pieces) ≡ all
word_taken pieces k w front all here full so_far =
    let e : filter is_word (drop k pieces) ≡ w ∷ filter is_word (drop (k + 1) pieces) = rw (piece_here pieces k w here, full) refl in
    append_assoc front (w ∷ []) (filter is_word (drop (k + 1) pieces)) ∙ (ap (λ (x : List (List ℕ)). front ++ x) (sym e) ∙ so_far)

pub word_passed : (pieces : List (List ℕ)) (k : ℕ) (w : List ℕ) (front all : List (List ℕ)) → (k < length pieces) × (w ≡ get_or pieces k w) → is_word w ≡ false
    → front ++ filter is_word (drop k pieces) ≡ all → front ++ filter is_word (drop (k + 1) pieces) ≡ all
word_passed pieces k w front all here empty so_far =
    let e : filter is_word (drop k pieces) ≡ filter is_word (drop (k + 1) pieces) = rw (piece_here pieces k w here, empty) refl in
    ap (λ (x : List (List ℕ)). front ++ x) (sym e) ∙ so_far

pub words_taken : (pieces : List (List ℕ)) (k : ℕ) (w : List ℕ) (front all : List (List ℕ)) → (k < length pieces) × (w ≡ get_or pieces k w)
    → front ++ flat_map tab_words (drop k pieces) ≡ all → (front ++ tab_words w) ++ flat_map tab_words (drop (k + 1) pieces) ≡ all
words_taken pieces k w front all here so_far =
    let e : flat_map tab_words (drop k pieces) ≡ tab_words w ++ flat_map tab_words (drop (k + 1) pieces) = rw (piece_here pieces k w here) refl in
    append_assoc front (tab_words w) (flat_map tab_words (drop (k + 1) pieces)) ∙ (ap (λ (x : List (List ℕ)). front ++ x) (sym e) ∙ so_far)
