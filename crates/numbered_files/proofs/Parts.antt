-- A name cut into its parts.
use Rattle.std.proofs.Common.{ℕ, ◌≡◌, ◌≢◌, ◌<◌, ◌^◌, List, [], ◌∷◌, ◌++◌, append_assoc, ap, sym, subst, ◌∙◌, Option, Some, None, MatchOption, Bor}
use Rattle.std.proofs.lemmas.List.{append_cancel_left, append_cancel_right}
use Rattle.numbered_files.specs.Names.{ten_digits}

pub no_front : (s p : List ℕ) → ((x : List ℕ) → s ≢ p ++ x) → (y : List ℕ) → s ≢ p ++ 46 ∷ y
no_front s p none y e = none (46 ∷ y) e

front_by : (s p x : List ℕ) (r : Option (Bor (List ℕ))) → s ≡ p ++ x
    → MatchOption r ((y : List ℕ) → x ≢ (46 ∷ []) ++ y) (λ y. x ≡ (46 ∷ []) ++ y.now)
    → MatchOption r ((y : List ℕ) → s ≢ p ++ 46 ∷ y) (λ y. s ≡ p ++ 46 ∷ y.now)
front_by s p x None e m = λ y f. m y (append_cancel_left p x (46 ∷ y) (sym e ∙ f))
front_by s p x (Some r) e m = e ∙ ap (λ t. p ++ t) m

pub front_dot : (s p x dot : List ℕ) (r : Option (Bor (List ℕ))) → dot ≡ 46 ∷ [] → s ≡ p ++ x
    → MatchOption r ((y : List ℕ) → x ≢ dot ++ y) (λ y. x ≡ dot ++ y.now)
    → MatchOption r ((y : List ℕ) → s ≢ p ++ 46 ∷ y) (λ y. s ≡ p ++ 46 ∷ y.now)
front_dot s p x dot r is e m =
    front_by s p x r e (subst (λ d. MatchOption r ((y : List ℕ) → x ≢ d ++ y) (λ y. x ≡ d ++ y.now)) is m)

pub no_end : (s q : List ℕ) → ((x : List ℕ) → s ≢ x ++ q) → (y : List ℕ) → s ≢ y ++ 46 ∷ q
no_end s q none y e = none (y ++ 46 ∷ []) (e ∙ sym (append_assoc y (46 ∷ []) q))

end_by : (s q x : List ℕ) (r : Option (Bor (List ℕ))) → s ≡ x ++ q
    → MatchOption r ((y : List ℕ) → x ≢ y ++ 46 ∷ []) (λ y. x ≡ y.now ++ 46 ∷ [])
    → MatchOption r ((y : List ℕ) → s ≢ y ++ 46 ∷ q) (λ y. s ≡ y.now ++ 46 ∷ q)
end_by s q x None e m = λ y f. m y (append_cancel_right x (y ++ 46 ∷ []) q (sym e ∙ f ∙ sym (append_assoc y (46 ∷ []) q)))
end_by s q x (Some r) e m = e ∙ ap (λ t. t ++ q) m ∙ append_assoc r.now (46 ∷ []) q

pub end_dot : (s q x dot : List ℕ) (r : Option (Bor (List ℕ))) → dot ≡ 46 ∷ [] → s ≡ x ++ q
    → MatchOption r ((y : List ℕ) → x ≢ y ++ dot) (λ y. x ≡ y.now ++ dot)
    → MatchOption r ((y : List ℕ) → s ≢ y ++ 46 ∷ q) (λ y. s ≡ y.now ++ 46 ∷ q)
end_dot s q x dot r is e m =
    end_by s q x r e (subst (λ d. MatchOption r ((y : List ℕ) → x ≢ y ++ d) (λ y. x ≡ y.now ++ d)) is m)

pub digits_before : (s q x : List ℕ) (r : Option ℕ) → s ≡ x ++ 46 ∷ q
    → MatchOption r ((n : ℕ) → n < 2 ^ 32 → x ≢ ten_digits n) (λ n. x ≡ ten_digits n)
    → MatchOption r ((n : ℕ) → n < 2 ^ 32 → s ≢ ten_digits n ++ 46 ∷ q) (λ n. s ≡ ten_digits n ++ 46 ∷ q)
digits_before s q x None e m = λ n h f. m n h (append_cancel_right x (ten_digits n) (46 ∷ q) (sym e ∙ f))
digits_before s q x (Some n) e m = e ∙ ap (λ t. t ++ 46 ∷ q) m

behind : (x y : List ℕ) → 46 ∷ x ≡ 46 ∷ y → x ≡ y
behind x y e = cc

pub digits_behind : (s p k x : List ℕ) (r : Option ℕ) → s ≡ p ++ 46 ∷ x
    → MatchOption r ((n : ℕ) → n < 2 ^ 32 → x ≢ ten_digits n ++ 46 ∷ k) (λ n. x ≡ ten_digits n ++ 46 ∷ k)
    → MatchOption r ((n : ℕ) → n < 2 ^ 32 → s ≢ p ++ 46 ∷ (ten_digits n ++ 46 ∷ k)) (λ n. s ≡ p ++ 46 ∷ (ten_digits n ++ 46 ∷ k))
digits_behind s p k x None e m =
    λ n h f. m n h (behind x (ten_digits n ++ 46 ∷ k) (append_cancel_left p (46 ∷ x) (46 ∷ (ten_digits n ++ 46 ∷ k)) (sym e ∙ f)))
digits_behind s p k x (Some n) e m = e ∙ ap (λ t. p ++ 46 ∷ t) m
