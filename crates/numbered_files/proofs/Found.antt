-- The numbers that names have, in a set.
use Rattle.std.proofs.Common.{ℕ, ◌≡◌, ◌-◌, ◌<◌, ◌≤◌, ◌⊎◌, inl, inr, ⊎_elim, true, false, cond, List, [], ◌∷◌, ◌++◌, length, min, take, drop, append_assoc, refl, ap, sym, subst, ◌∙◌, arith}
use Rattle.std.specs.Prelude.{◌↔◌, IsTrue, Contains}
use Rattle.std.specs.Ordering.{nat_cmp, is_eq}
use Rattle.std.specs.Cmp.{nat_cmp_is}
use Rattle.std.specs.declared.cmp.Ordering.TheVariants.{Less, Equal, Greater}
use Rattle.std.specs.BTreeMap.{is_at}
use Rattle.std.specs.BTreeSet.{BTreeSet, contains}
use Rattle.std.proofs.lemmas.Bool.{cases_eq, cases_lt}
use Rattle.std.proofs.lemmas.List.{take_all, take-append-le}
use Rattle.std.proofs.lemmas.List.Elements.{Contains-append_left, Contains-push, Contains-push_cases}
use Rattle.numbered_files.specs.Names.{file_name, IsNumber, IsNamed}
use Rattle.numbered_files.specs.declared.family.Family.{Family}

at_itself : (s : ℕ) → is_at (nat_cmp s) s ≡ true
at_itself s = ap is_eq (sym (nat_cmp_is s s Equal refl))

at_below : (s q : ℕ) → q < s → is_at (nat_cmp s) q ≡ false
at_below s q lt = ap is_eq (sym (nat_cmp_is s q Greater lt))

at_above : (s q : ℕ) → s < q → is_at (nat_cmp s) q ≡ false
at_above s q lt = ap is_eq (sym (nat_cmp_is s q Less lt))

at_other : (s q : ℕ) → (s ≡ q → ⊥) → is_at (nat_cmp s) q ≡ false
at_other s q other = ⊎_elim (λ lt. at_above s q lt) (λ le. at_below s q (omega (arith, le, other))) (cases_lt s q)

-- a set after the insertion of a number, where P says that it is this one
pub with_one : (x : ℕ) (old new : BTreeSet ℕ) → ((q : ℕ) → contains nat_cmp new q ≡ cond (is_at (nat_cmp x) q) true (contains nat_cmp old q))
    → (n : ℕ) (P : Type 0) → (x ≡ n → P) → (P → x ≡ n) → IsTrue (contains nat_cmp new n) ↔ (IsTrue (contains nat_cmp old n) ⊎ P)
with_one x old new h n P to from =
    ⊎_elim
    (λ same. let on : contains nat_cmp new n ≡ true = h n ∙ ap (λ b. cond b true (contains nat_cmp old n)) (subst (λ (q : ℕ). is_at (nat_cmp x) q ≡ true) same (at_itself x)) in
    ((λ _. inr (to same)), (λ _. on)))
    (λ other. let stays : contains nat_cmp new n ≡ contains nat_cmp old n = h n ∙ ap (λ b. cond b true (contains nat_cmp old n)) (at_other x n other) in
    ((λ t. inl (sym stays ∙ t)), ⊎_elim (λ t. stays ∙ t) (λ p. absurd (other (from p)))))
    (cases_eq x n)

-- one name more
pub named_more : (family : Family) (xs names : List (List ℕ)) (name : List ℕ) → names ≡ xs ++ name ∷ [] → (n : ℕ) (Old New : Type 0)
    → (New ↔ (Old ⊎ IsNumber family name n)) → (Old ↔ IsNamed family xs n) → New ↔ IsNamed family names n
named_more family xs names name grown n Old New step so_far = (
  (λ t. ⊎_elim
      (λ o. let p = so_far.0 o in (p.0, p.1, subst (λ l. Contains l (file_name family n)) (sym grown) (Contains-append_left xs (name ∷ []) (file_name family n) p.2)))
      (λ q. (q.0, q.1, subst (λ l. Contains l (file_name family n)) (sym grown) (subst (λ x. Contains (xs ++ name ∷ []) x) q.2 (Contains-push xs name))))
      (step.0 t)),
  (λ p. ⊎_elim
      (λ h. step.1 (inl (so_far.1 (p.0, p.1, h))))
      (λ e. step.1 (inr (p.0, p.1, e)))
      (Contains-push_cases xs name (file_name family n) (subst (λ l. Contains l (file_name family n)) grown p.2))),
)

-- a read of as many bytes as there are finds them
pub whole : (bytes into out rest found : List ℕ) (n m : ℕ) → length into ≡ length bytes → m ≡ length bytes → n ≡ min (length into) (length bytes - 0)
    → out ≡ take n (drop 0 bytes) ++ drop n into → found ≡ take n (take m (out ++ rest)) → found ≡ bytes
whole bytes into out rest found n m len most count out_is found_is =
    let e : n ≡ length bytes = omega (arith, len, count) in
    let le : m ≤ length bytes = omega arith in
    let all : take n bytes ≡ bytes = take_all n bytes (omega arith) in
    let parts : out ++ rest ≡ bytes ++ (drop n into ++ rest) = ap (λ t. t ++ rest) (out_is ∙ ap (λ t. t ++ drop n into) all) ∙ append_assoc bytes (drop n into) rest in
    let cut : take m (out ++ rest) ≡ bytes = ap (take m) parts ∙ take-append-le m bytes (drop n into ++ rest) le ∙ take_all m bytes (omega arith) in
    found_is ∙ ap (take n) cut ∙ all
