-- Each number once, in the order in which they first stand.
use Rattle.std.proofs.Common.{◌≡◌, ◌≢◌, ℕ, ◌==◌, Bool, true, false, not, cond, List, [], ◌∷◌, ◌++◌, filter, refl, sym, ap, ◌∙◌, inl, inr, arith, AllPairs, Contains}
use Rattle.std.proofs.lemmas.Bool.{eqb-true, eq-eqb}
use Rattle.std.proofs.lemmas.List.Elements.{filter-append, filter_passes, All-weaker}
use Rattle.std.proofs.lemmas.List.Kept.{AllPairs-cons, AllPairs-filter}
use Rattle.route_graph.specs.Walks.{firsts}
use Rattle.route_graph.proofs.Members.{cons-cases, cons-head, cons-tail, nil-none}

-- the list without a number
abbrev pub without : ℕ → List ℕ → List ℕ
without number numbers = filter (λ other. not (other == number)) numbers

both_step : (p q : ℕ → Bool) (x : ℕ) (xs : List ℕ) (a b : Bool) → p x ≡ a → q x ≡ b → filter p (filter q xs) ≡ filter q (filter p xs) → filter p (filter q (x ∷ xs)) ≡ filter q (filter p (x ∷ xs))
both_step p q x xs true true e f h = simp (e, f) (ap (λ (zs : List ℕ). x ∷ zs) h)
both_step p q x xs true false e f h = simp (e, f) h
both_step p q x xs false true e f h = simp (e, f) h
both_step p q x xs false false e f h = simp (e, f) h

both : (p q : ℕ → Bool) (xs : List ℕ) → filter p (filter q xs) ≡ filter q (filter p xs)
both p q [] = refl
both p q (x ∷ xs) = both_step p q x xs (p x) (q x) refl refl (both p q xs)

again_step : (p : ℕ → Bool) (x : ℕ) (xs : List ℕ) (a : Bool) → p x ≡ a → filter p (filter p xs) ≡ filter p xs → filter p (filter p (x ∷ xs)) ≡ filter p (x ∷ xs)
again_step p x xs true e h = simp e (ap (λ (zs : List ℕ). x ∷ zs) h)
again_step p x xs false e h = simp e h

again : (p : ℕ → Bool) (xs : List ℕ) → filter p (filter p xs) ≡ filter p xs
again p [] = refl
again p (x ∷ xs) = again_step p x xs (p x) refl (again p xs)

kept_step : (p : ℕ → Bool) (x : ℕ) (xs : List ℕ) (y : ℕ) (a : Bool) → p x ≡ a → Contains (filter p (x ∷ xs)) y → (Contains (filter p xs) y → Contains xs y) → Contains (x ∷ xs) y
kept_step p x xs y true e c h =
    elim (cons-cases x (filter p xs) y (rw e at c)) [
      | inl same ↦ (0, omega arith, same)
      | inr k ↦ cons-tail x xs y (h k)
    ]
kept_step p x xs y false e c h = cons-tail x xs y (h (rw e at c))

kept : (p : ℕ → Bool) (xs : List ℕ) (y : ℕ) → Contains (filter p xs) y → Contains xs y
kept p [] y c = c
kept p (x ∷ xs) y c = kept_step p x xs y (p x) refl c (kept p xs y)

keeps_step : (p : ℕ → Bool) (x : ℕ) (xs : List ℕ) (y : ℕ) (a : Bool) → p x ≡ a → p y ≡ true → Contains (x ∷ xs) y → (Contains xs y → Contains (filter p xs) y) → Contains (filter p (x ∷ xs)) y
keeps_step p x xs y true e f c h =
    rw e (elim (cons-cases x xs y c) [
      | inl same ↦ (0, omega arith, same)
      | inr k ↦ cons-tail x (filter p xs) y (h k)
    ])
keeps_step p x xs y false e f c h =
    rw e (elim (cons-cases x xs y c) [
      | inl same ↦ absurd (let g : p x ≡ p y = ap p same in let i : false ≡ true = sym e ∙ g ∙ f in cc)
      | inr k ↦ h k
    ])

keeps : (p : ℕ → Bool) (xs : List ℕ) (y : ℕ) → p y ≡ true → Contains xs y → Contains (filter p xs) y
keeps p [] y f c = c
keeps p (x ∷ xs) y f c = keeps_step p x xs y (p x) refl f c (keeps p xs y f)

-- a list that has a number stays as it is where the number comes again, but for that number
without_again : (number : ℕ) (xs ys : List ℕ) → without number (firsts (xs ++ number ∷ ys)) ≡ without number (firsts (xs ++ ys))
without_again number [] ys =
    let same : (number == number) ≡ true = eq-eqb number number refl in
    simp same (again (λ other. not (other == number)) (firsts ys))
without_again number (x ∷ xs) ys =
    let less = without_again number xs ys in
    let turn = λ (zs : List ℕ). both (λ other. not (other == number)) (λ other. not (other == x)) zs in
    ap (λ (zs : List ℕ). cond (not (x == number)) (x ∷ zs) zs)
    (turn (firsts (xs ++ number ∷ ys)) ∙ ap (without x) less ∙ sym (turn (firsts (xs ++ ys))))

-- a number that came before changes nothing
pub firsts_again : (xs : List ℕ) (number : ℕ) (ys : List ℕ) → Contains xs number → firsts (xs ++ number ∷ ys) ≡ firsts (xs ++ ys)
firsts_again [] number ys c = absurd (nil-none number c)
firsts_again (x ∷ xs) number ys c =
    elim (cons-cases x xs number c) [
      | inl e ↦ ap (λ (zs : List ℕ). x ∷ zs) (rw e (without_again number xs ys))
      | inr k ↦ ap (λ (zs : List ℕ). x ∷ without x zs) (firsts_again xs number ys k)
    ]

-- nor do numbers that all came before
pub firsts_known : (xs known ys : List ℕ) → ((number : ℕ) → Contains known number → Contains xs number) → firsts (xs ++ (known ++ ys)) ≡ firsts (xs ++ ys)
firsts_known xs [] ys h = refl
firsts_known xs (number ∷ known) ys h =
    firsts_again xs number (known ++ ys) (h number (cons-head number known)) ∙ firsts_known xs known ys (λ other c. h other (cons-tail number known other c))

new_step : (x number : ℕ) (xs : List ℕ) (b : Bool) → (number == x) ≡ b → x ≢ number → without x (xs ++ number ∷ []) ≡ without x xs ++ number ∷ []
new_step x number xs true e n = absurd (n (sym (eqb-true number x e)))
new_step x number xs false e n = filter-append (λ other. not (other == x)) xs (number ∷ []) ∙ simp e

-- a number that is new comes last
pub firsts_new : (xs : List ℕ) (number : ℕ) → (Contains xs number → ⊥) → firsts (xs ++ number ∷ []) ≡ firsts xs ++ number ∷ []
firsts_new [] number n = refl
firsts_new (x ∷ xs) number n =
    let less = firsts_new xs number (λ c. n (cons-tail x xs number c)) in
    let apart : x ≢ number = λ e. n (0, omega arith, e) in
    ap (λ (zs : List ℕ). x ∷ zs) (ap (without x) less ∙ new_step x number (firsts xs) (number == x) refl apart)

-- the list has the same numbers
pub firsts-contained : (xs : List ℕ) (number : ℕ) → Contains (firsts xs) number → Contains xs number
firsts-contained [] number c = c
firsts-contained (x ∷ xs) number c =
    elim (cons-cases x (without x (firsts xs)) number c) [
      | inl e ↦ (0, omega arith, e)
      | inr k ↦ cons-tail x xs number (firsts-contained xs number (kept (λ other. not (other == x)) (firsts xs) number k))
    ]

contained_step : (x : ℕ) (xs : List ℕ) (number : ℕ) (b : Bool) → (number == x) ≡ b → Contains (firsts xs) number → Contains (firsts (x ∷ xs)) number
contained_step x xs number true e c = (0, omega arith, sym (eqb-true number x e))
contained_step x xs number false e c = cons-tail x (without x (firsts xs)) number (keeps (λ other. not (other == x)) (firsts xs) number (ap not e) c)

pub contained-firsts : (xs : List ℕ) (number : ℕ) → Contains xs number → Contains (firsts xs) number
contained-firsts [] number c = c
contained-firsts (x ∷ xs) number c =
    elim (cons-cases x xs number c) [
      | inl e ↦ (0, omega arith, e)
      | inr k ↦ contained_step x xs number (number == x) refl (contained-firsts xs number k)
    ]

differs : (x y : ℕ) → not (y == x) ≡ true → x ≢ y
differs x y e same = (let f = eq-eqb y x (sym same) in let g : not (y == x) ≡ false = ap not f in let h : true ≡ false = sym e ∙ g in cc)

-- no number stands there twice
pub firsts-once : (xs : List ℕ) → AllPairs (λ x y. x ≢ y) (firsts xs)
firsts-once [] = λ i j d less inside. absurd (omega arith)
firsts-once (x ∷ xs) =
    AllPairs-cons (λ x y. x ≢ y) x (without x (firsts xs))
    (All-weaker (λ y. not (y == x) ≡ true) (λ y. x ≢ y) (λ y e. differs x y e) (without x (firsts xs)) (filter_passes (λ other. not (other == x)) (firsts xs)))
    (AllPairs-filter (λ x y. x ≢ y) (λ other. not (other == x)) (firsts xs) (firsts-once xs))
