-- A set of the numbers of a list, as both grow.
use Rattle.std.proofs.Common.{ℕ, ◌≡◌, ◌==◌, ◌<◌, ⊎_elim, true, false, cond, List, [], ◌∷◌, ◌++◌, refl, ap, sym, subst, ◌∙◌, arith, Contains}
use Rattle.std.specs.Ordering.{nat_cmp, is_eq}
use Rattle.std.specs.Cmp.{nat_cmp_is}
use Rattle.std.specs.declared.cmp.Ordering.TheVariants.{Less, Equal, Greater}
use Rattle.std.specs.List.{list_any}
use Rattle.std.specs.BTreeMap.{is_at}
use Rattle.std.specs.BTreeSet.{BTreeSet, contains}
use Rattle.std.proofs.lemmas.Bool.{cases_eq, cases_lt}
use Rattle.std.proofs.lemmas.List.Folds.{list_any-append}
use Rattle.route_graph.specs.Visits.{HasNumbers}
use Rattle.route_graph.proofs.Members.{cons-cases, cons-head, cons-tail, nil-none}

at_itself : (s : ℕ) → is_at (nat_cmp s) s ≡ true
at_itself s = ap is_eq (sym (nat_cmp_is s s Equal refl))

at_below : (s q : ℕ) → q < s → is_at (nat_cmp s) q ≡ false
at_below s q lt = ap is_eq (sym (nat_cmp_is s q Greater lt))

at_above : (s q : ℕ) → s < q → is_at (nat_cmp s) q ≡ false
at_above s q lt = ap is_eq (sym (nat_cmp_is s q Less lt))

at_other : (s q : ℕ) → (s ≡ q → ⊥) → is_at (nat_cmp s) q ≡ false
at_other s q other = ⊎_elim (λ lt. at_above s q lt) (λ le. at_below s q (omega (arith, le, other))) (cases_lt s q)

same_test : (s q : ℕ) → is_at (nat_cmp s) q ≡ (s == q)
same_test s q = ⊎_elim
    (λ same. let e : (s == q) ≡ true = grind (arith, same) in subst (λ (x : ℕ). is_at (nat_cmp s) x ≡ true) same (at_itself s) ∙ sym e)
    (λ other. let e : (s == q) ≡ false = grind (arith, other) in at_other s q other ∙ sym e)
    (cases_eq s q)

-- one number more
pub numbers_more : (numbers : List ℕ) (x : ℕ) (old new : BTreeSet ℕ) → HasNumbers old numbers → ((q : ℕ) → contains nat_cmp new q ≡ cond (is_at (nat_cmp x) q) true (contains nat_cmp old q)) → HasNumbers new (numbers ++ x ∷ [])
numbers_more numbers x old new has update q =
    let test = same_test x q in
    let before = has q in
    let step = update q in
    let after = list_any-append (λ (other : ℕ). other == q) numbers (x ∷ []) in
    grind (arith, test, before, step, after)

-- a number that the test finds stands in the list
pub found_in : (numbers : List ℕ) (x : ℕ) → list_any (λ other. other == x) numbers ≡ true → Contains numbers x
found_in [] x e = absurd (cc)
found_in (y ∷ numbers) x e = ⊎_elim
    (λ same. subst (λ (z : ℕ). Contains (y ∷ numbers) z) same (cons-head y numbers))
    (λ other. let f : (y == x) ≡ false = grind (arith, other) in cons-tail y numbers x (found_in numbers x (rw f at e)))
    (cases_eq y x)

-- one that it doesn't find stands nowhere in it
pub found_nowhere : (numbers : List ℕ) (x : ℕ) → list_any (λ other. other == x) numbers ≡ false → Contains numbers x → ⊥
found_nowhere [] x e c = nil-none x c
found_nowhere (y ∷ numbers) x e c = ⊎_elim
    (λ same. let f : (y == x) ≡ true = grind (arith, same) in let g = rw f at e in cc)
    (λ other. let f : (y == x) ≡ false = grind (arith, other) in ⊎_elim (λ same. other same) (λ rest. found_nowhere numbers x (rw f at e) rest) (cons-cases y numbers x c))
    (cases_eq y x)
