-- Patterns by the site that they are of.
use Rattle.std.proofs.Common.{◌≡◌, ◌↔◌, ◌⊎◌, inl, inr, ℕ, zero, suc, ◌+◌, ◌<◌, ◌≤◌, Bool, true, false, cond, not, ◌==◌, List, [], ◌∷◌, ◌++◌, map, length, get_or, slice_get, Option, Some, None, refl, sym, ap, subst, ◌∙◌, arith, Any, All, Contains, IsTrue}
use Rattle.std.specs.Prelude.{Vec}
use Rattle.std.specs.Option.{option_map_or}
use Rattle.std.specs.Ordering.{nat_cmp, is_eq, ordering_then}
use Rattle.std.specs.declared.cmp.Ordering.{Ordering}
use Rattle.std.specs.declared.cmp.Ordering.TheVariants.{Less, Equal, Greater}
use Rattle.std.specs.Cmp.{nat_cmp_is}
use Rattle.std.specs.BTreeMap.{is_at}
use Rattle.std.proofs.lemmas.Bool.{cases_lt, eqb-true, eq-eqb, true≢false}
use Rattle.std.proofs.lemmas.List.{map-append}
use Rattle.std.proofs.lemmas.List.Elements.{All-contains, All-contains_itself, Contains-append_cases, Contains-append_left, Contains-append_right}
use Rattle.std.proofs.lemmas.Map.Lookups.{exact_unsigned, exact_pairs}
use Rattle.std.proofs.lemmas.Option.{slice_get_read, slice_get_within, get_or_from_slice_get, same_Some}
use Rattle.loss_rules.specs.BySite.{site_cmp}
use Rattle.loss_rules.specs.Lines.{HoldsBefore}

equal_from : (o : Ordering) → is_eq o ≡ true → o ≡ Equal
equal_from Less e = absurd (cc e)
equal_from Equal e = refl
equal_from Greater e = absurd (cc e)

pub site_is : (site other : (ℕ × ℕ) × ℕ) → is_at (site_cmp site) other ≡ true → site ≡ other
site_is site other e =
    exact_pairs (λ (x y : ℕ × ℕ). ordering_then (nat_cmp x.0 y.0) (nat_cmp x.1 y.1)) nat_cmp (exact_pairs nat_cmp nat_cmp exact_unsigned exact_unsigned) exact_unsigned site other (equal_from (site_cmp site other) e)

itself : (n : ℕ) → nat_cmp n n ≡ Equal
itself n = sym (nat_cmp_is n n Equal refl)

pub site_itself : (site : (ℕ × ℕ) × ℕ) → is_at (site_cmp site) site ≡ true
site_itself site = rw (itself site.0.0, itself site.0.1, itself site.1) refl

pub site_apart : (site other : (ℕ × ℕ) × ℕ) → is_at (site_cmp site) other ≡ false → ¬ (site ≡ other)
site_apart site other e same = let at : is_at (site_cmp site) other ≡ true = subst (λ o. is_at (site_cmp site) o ≡ true) same (site_itself site) in absurd (cc (sym at ∙ e))

-- what is so exactly where another thing is, and that where a third
pub both : {F G H : Type 0} → F ↔ G → G ↔ H → F ↔ H
both one two = (λ f. two.0 (one.0 f), λ h. one.1 (two.1 h))

-- a list that isn't empty has something
pub not_empty : (n : ℕ) (empty : Bool) → empty ≡ (n == 0) → IsTrue (not empty) ↔ (0 < n)
not_empty n empty is = by (n == 0) refl
  where
    some : (n == 0) ≡ false → (0 < n) ⊎ (n ≤ 0) → 0 < n
    some e (inl less) = less
    some e (inr past) = absurd (true≢false (sym (eq-eqb n 0 (omega (arith, past))) ∙ e))

    by : (b : Bool) → (n == 0) ≡ b → IsTrue (not empty) ↔ (0 < n)
    by true e = rw (is, e) (λ t. absurd (cc t), λ less. absurd (let none = eqb-true n 0 e in omega (arith, none, less)))
    by false e = rw (is, e) (λ _. some e (cases_lt 0 n), λ _. refl)

only : {X : Type 0} (x y : X) → Contains (x ∷ []) y → x ≡ y
only x y c = let e : c.0 ≡ 0 = (let less = c.1 in omega arith) in rw e at c.2

one_more : {X : Type 0} (before after : List X) (x : X) (Same : Type 0) → Same → after ≡ before ++ x ∷ [] → (y : X) → Contains after y ↔ (Contains before y ⊎ (Same × (x ≡ y)))
one_more before after x Same same is y = rw is (
  λ c. elim (Contains-append_cases before (x ∷ []) y c) [ inl old ↦ inl old | inr last ↦ inr (same, only x y last) ],
  λ s. elim s [ inl old ↦ Contains-append_left before (x ∷ []) y old | inr last ↦ Contains-append_right before (x ∷ []) y (0, omega arith, last.1) ],
)

none_more : {X : Type 0} (before after : List X) (x : X) (Same : Type 0) → ¬ Same → after ≡ before → (y : X) → Contains after y ↔ (Contains before y ⊎ (Same × (x ≡ y)))
none_more before after x Same apart is y = rw is (λ c. inl c, λ s. elim s [ inl old ↦ old | inr last ↦ absurd (apart last.0) ])

module _ {R X A : Type 0} (show : R → X) where
  -- what the lists that are found there show
  abbrev pub shown : Option (Vec R A) → List X
  shown found = option_map_or (λ lists. map show lists.items) found []

  -- the lists of one site were taken out, and put back with one more
  pub grown : (t : Bool) (before mid new : Option (Vec R A)) (lists more : Vec R A) (x : R) (Same : Type 0) → (t ≡ true → Same × (shown before ≡ map show lists.items)) → (t ≡ false → ¬ Same)
      → mid ≡ cond t None before → new ≡ cond t (Some more) mid → more.items ≡ lists.items ++ x ∷ [] → (y : X) → Contains (shown new) y ↔ (Contains (shown before) y ⊎ (Same × (show x ≡ y)))
  grown true before mid new lists more x Same here apart mid_is new_is items y =
      let h = here refl in
      one_more (shown before) (shown new) (show x) Same h.0 (ap shown new_is ∙ ap (map show) items ∙ map-append show lists.items (x ∷ []) ∙ ap (λ l. l ++ show x ∷ []) (sym h.1)) y
  grown false before mid new lists more x Same here apart mid_is new_is items y = none_more (shown before) (shown new) (show x) Same (apart refl) (ap shown (new_is ∙ mid_is)) y

module _ {X : Type 0} (P : X → Type 0) (xs : List X) where
  -- one more element, at which one thing holds exactly where it is what was added
  pub before_more : (n : ℕ) (x : X) (Old New Added : Type 0) → n < length xs → x ≡ get_or xs n x → Old ↔ HoldsBefore P xs n → New ↔ (Old ⊎ Added) → Added ↔ P x → New ↔ HoldsBefore P xs (n + 1)
  before_more n x Old New Added less is old new added = (λ m. there (new.0 m), λ h. new.1 (back h (cases_lt h.0 n)))
    where
      got : slice_get xs n ≡ Some x
      got = slice_get_read xs (length xs) n x refl less is

      there : Old ⊎ Added → HoldsBefore P xs (n + 1)
      there (inl o) = let h = old.0 o in (h.0, h.1, (let l = h.2 in omega (arith, l)), h.3, h.4)
      there (inr a) = (n, x, omega arith, got, added.0 a)

      back : (h : HoldsBefore P xs (n + 1)) → (h.0 < n) ⊎ (n ≤ h.0) → Old ⊎ Added
      back h (inl early) = inl (old.1 (h.0, h.1, early, h.3, h.4))
      back h (inr past) =
          let l = h.2 in
          let same : h.0 ≡ n = omega (arith, l, past) in
          inr (added.1 (subst P (same_Some h.1 x (sym h.3 ∙ ap (slice_get xs) same ∙ got)) h.4))

  pub before_none : (Old : Type 0) → ¬ Old → Old ↔ HoldsBefore P xs 0
  before_none Old none = (λ o. absurd (none o), λ h. absurd (let l = h.2 in omega (arith, l)))

  pub before_all : (n : ℕ) (Old : Type 0) → length xs ≤ n → Old ↔ HoldsBefore P xs n → Old ↔ Any P xs
  before_all n Old end old = (
    λ o. (let h = old.0 o in (h.0, h.1, slice_get_within xs h.0 h.1 h.3, get_or_from_slice_get xs h.0 h.1 h.1 h.3, h.4)),
    λ a. old.1 (a.0, a.1, (let l = a.2 in omega (arith, l, end)), slice_get_read xs (length xs) a.0 a.1 refl a.2 (sym a.3), a.4),
  )

contains_shown : {R X : Type 0} (show : R → X) (rs : List R) (r : R) → Contains rs r → Contains (map show rs) (show r)
contains_shown show [] r c = absurd (let less = c.1 in omega arith)
contains_shown show (s ∷ rs) r (zero, less, is) = (0, omega arith, ap show is)
contains_shown show (s ∷ rs) r (suc k, less, is) = let m = contains_shown show rs r (k, omega arith, is) in (suc m.0, (let l = m.1 in omega arith), m.2)

shown_contains : {R X : Type 0} (show : R → X) (rs : List R) (x : X) → Contains (map show rs) x → (r : R) × Contains rs r × (show r ≡ x)
shown_contains show [] x c = absurd (let less = c.1 in omega arith)
shown_contains show (s ∷ rs) x (zero, less, is) = (s, (0, omega arith, refl), is)
shown_contains show (s ∷ rs) x (suc k, less, is) = let m = shown_contains show rs x (k, omega arith, is) in (m.0, (suc m.1.0, (let l = m.1.1 in omega arith), m.1.2), m.2)

first_of : {R : Type 0} (rs : List R) → 0 < length rs → (r : R) × Contains rs r
first_of [] some = absurd (omega arith)
first_of (r ∷ rs) some = (r, (0, omega arith, refl))

module _ {R X Y : Type 0} (show : R → X) (rs : List R) (S : Y → Type 0) (of : Y → X) (ys : List Y) (are : (x : X) → Contains (map show rs) x ↔ Any (λ y. S y × (of y ≡ x)) ys) where
  back : (y : Y) → Contains ys y → S y → (r : R) × Contains rs r × (show r ≡ of y)
  back y at s = shown_contains show rs (of y) ((are (of y)).1 (at.0, y, at.1, at.2, (s, refl)))

  there : (r : R) → Contains rs r → Any (λ y. S y × (of y ≡ show r)) ys
  there r at = (are (show r)).0 (contains_shown show rs r at)

  -- something is looked up exactly where something is of it
  pub some_found : (0 < length rs) ↔ Any S ys
  some_found = (
    λ some. (let r = first_of rs some in let t = there r.0 r.1 in (t.0, t.1, t.2, t.3, t.4.0)),
    λ a. (let b = back a.1 (a.0, a.2, a.3) a.4 in let less = b.1.1 in omega (arith, less)),
  )

  -- one of those that are looked up is so exactly where one that is of it is so
  pub any_found : (P : X → Type 0) → Any (λ r. P (show r)) rs ↔ Any (λ y. S y × P (of y)) ys
  any_found P = (
    λ a. (let t = there a.1 (a.0, a.2, a.3) in (t.0, t.1, t.2, t.3, (t.4.0, subst P (sym t.4.1) a.4))),
    λ a. (let b = back a.1 (a.0, a.2, a.3) a.4.0 in (b.1.0, b.0, b.1.1, b.1.2, subst P (sym b.2) a.4.1)),
  )

  -- and each of them where each is
  pub all_found : (P : X → Type 0) → All (λ r. P (show r)) rs ↔ All (λ y. S y → P (of y)) ys
  all_found P = (
    λ all k d less s. (let y = get_or ys k d in let b = back y (All-contains_itself ys k d less) s in subst P b.2 (All-contains (λ r. P (show r)) rs b.0 all b.1)),
    λ all k d less. (let r = get_or rs k d in let t = there r (All-contains_itself rs k d less) in subst P t.4.1 (All-contains (λ y. S y → P (of y)) ys t.1 all (t.0, t.2, t.3) t.4.0)),
  )
