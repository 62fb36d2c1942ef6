-- Entries by rising serial, and what passes a test among them.
use Rattle.std.proofs.Common.{◌≡◌, ℕ, ◌<◌, ◌==◌, ◌-◌, length, slice_get, arith, Bool, true, false, cond, List, [], ◌∷◌, ◌++◌, Option, Some, None, option_map, refl, sym, ap, subst, ◌∙◌, IsSome}
use Rattle.std.specs.Prelude.{filter, Result, Ok, Err, OnErr, OnOk, is_err, IfSome, IsSomeAnd}
use Rattle.std.specs.Borrow.{Bor}
use Rattle.std.specs.Option.{option_copied}
use Rattle.std.specs.Ordering.{nat_cmp, is_eq}
use Rattle.std.specs.declared.cmp.Ordering.{Ordering}
use Rattle.std.specs.declared.cmp.Ordering.TheVariants.{Less, Equal, Greater}
use Rattle.std.specs.Cmp.{nat_cmp_is}
use Rattle.std.specs.BTreeMap.{is_at, insert_entry}
use Rattle.std.specs.BTreeSet.{insert_key}
use Rattle.std.specs.Set.{remove_key}
use Rattle.std.specs.List.{AllByRecursion, last_or}
use Rattle.std.specs.List.Sorted.{IsStrictlySortedBy}
use Rattle.std.specs.Map.{lookup, set_value, remove_entry, keys_of}
use Rattle.std.proofs.lemmas.Map.Lookups.{exact_unsigned}
use Rattle.std.proofs.lemmas.Option.{same_Some}
use Rattle.std.proofs.lemmas.Bool.{eqb-true, eq-eqb, true≢false}
use Rattle.buffer_state.specs.Slots.{AreBelow}
use Rattle.buffer_state.specs.Tags.{without}

equal_from : (o : Ordering) → is_eq o ≡ true → o ≡ Equal
equal_from Less e = absurd (cc e)
equal_from Equal e = refl
equal_from Greater e = absurd (cc e)

pub at_same : (s q : ℕ) → is_at (nat_cmp s) q ≡ true → s ≡ q
at_same s q e = exact_unsigned s q (equal_from (nat_cmp s q) e)

pub at_itself : (s : ℕ) → is_at (nat_cmp s) s ≡ true
at_itself s = ap is_eq (sym (nat_cmp_is s s Equal refl))

pub at_below : (s q : ℕ) → q < s → is_at (nat_cmp s) q ≡ false
at_below s q lt = ap is_eq (sym (nat_cmp_is s q Greater lt))

pub at_above : (s q : ℕ) → s < q → is_at (nat_cmp s) q ≡ false
at_above s q lt = ap is_eq (sym (nat_cmp_is s q Less lt))

-- the test, turned
pub other_way : (s q : ℕ) → is_at (nat_cmp s) q ≡ false → is_at (nat_cmp q) s ≡ false
other_way s q off = by (is_at (nat_cmp q) s) refl
  where
    by : (b : Bool) → is_at (nat_cmp q) s ≡ b → b ≡ false
    by false e = refl
    by true e = absurd (true≢false (sym (at_itself s) ∙ ap (is_at (nat_cmp s)) (sym (at_same q s e)) ∙ off))

-- `==` from the test, turned
pub apart : (s q : ℕ) → is_at (nat_cmp s) q ≡ false → (q == s) ≡ false
apart s q e = by (q == s) refl
  where
    by : (b : Bool) → (q == s) ≡ b → b ≡ false
    by false f = refl
    by true f = absurd (true≢false (sym (at_itself s) ∙ ap (is_at (nat_cmp s)) (sym (eqb-true q s f)) ∙ e))

without_head : (k s : ℕ) (ks : List ℕ) → s ≡ k → without k ks ≡ ks → without s (k ∷ ks) ≡ ks
without_head k s ks same rest = subst (λ t. without t (k ∷ ks) ≡ ks) (sym same) (rw (eq-eqb k k refl) rest)

pub filter_same : {X : Type 0} (p q : X → Bool) → ((x : X) → p x ≡ q x) → (xs : List X) → filter p xs ≡ filter q xs
filter_same p q same xs = λ i. filter (λ x. same x i) xs

-- what holds of a value that is there
pub if_some : {X : Type 0} (o : Option X) (P : X → Type 0) (x : X) → IfSome o P → o ≡ Some x → P x
if_some None P x h e = absurd (cc e)
if_some (Some y) P x h e = rw (sym (same_Some y x e)) h

pub some_and : {X : Type 0} (o : Option X) (P : X → Type 0) (x : X) → IsSomeAnd o P → o ≡ Some x → P x
some_and None P x h e = absurd h
some_and (Some y) P x h e = rw (sym (same_Some y x e)) h

pub on_err_at : {T E P : Type 0} (r : Result T E) → OnErr r P → is_err r ≡ true → P
on_err_at (Ok x) h e = absurd (true≢false (sym e))
on_err_at (Err y) h e = h

pub on_ok_at : {T E P : Type 0} (r : Result T E) → OnOk r P → is_err r ≡ false → P
on_ok_at (Ok x) h e = h
on_ok_at (Err y) h e = absurd (true≢false e)

pub map_map : {X Y Z : Type 0} (f : Y → Z) (g : X → Y) (o : Option X) → option_map (λ x. f (g x)) o ≡ option_map f (option_map g o)
map_map f g None = refl
map_map f g (Some x) = refl

pub one_further : (xs : List ℕ) (s : ℕ) (ys : List ℕ) → xs ++ (s ∷ ys) ≡ (xs ++ s ∷ []) ++ ys
one_further [] s ys = refl
one_further (x ∷ xs) s ys = ap (λ r. x ∷ r) (one_further xs s ys)

-- what holds beside an `Err`
pub on_err : {T E P : Type 0} (r : Result T E) → P → OnErr r P
on_err (Ok x) p = tt
on_err (Err e) p = p

module _ {X : Type 0} where
  pub insert_last : (es : List (ℕ × X)) (s : ℕ) (v : X) → AreBelow s (keys_of es) → insert_entry nat_cmp es s v ≡ es ++ (s, v) ∷ []
  insert_last [] s v h = refl
  insert_last (e ∷ es) s v h = rw (sym (nat_cmp_is s e.0 Greater h.0)) (ap (λ r. e ∷ r) (insert_last es s v h.1))

  pub set_itself : (test : ℕ → Bool) (es : List (ℕ × X)) (v : X) → lookup test es ≡ Some v → set_value test es v ≡ es
  set_itself test [] v at = refl
  set_itself test (e ∷ es) v at = by (test e.0) at (set_itself test es v)
    where
      by : (b : Bool) → cond b (Some e.1) (lookup test es) ≡ Some v → (lookup test es ≡ Some v → set_value test es v ≡ es)
          → cond b ((e.0, v) ∷ es) (e ∷ set_value test es v) ≡ e ∷ es
      by true at rest = ap (λ (x : X). (e.0, x) ∷ es) (sym (same_Some e.1 v at))
      by false at rest = ap (λ r. e ∷ r) (rest at)

  pub lookup_above : (es : List (ℕ × X)) (s : ℕ) → AreBelow s (keys_of es) → lookup (is_at (nat_cmp s)) es ≡ None
  lookup_above [] s h = refl
  lookup_above (e ∷ es) s h = rw (at_below s e.0 h.0) (lookup_above es s h.1)

  pub removed_last : (es : List (ℕ × X)) (s : ℕ) (v : X) → AreBelow s (keys_of es) → remove_entry (is_at (nat_cmp s)) (es ++ (s, v) ∷ []) ≡ es
  removed_last [] s v h = rw (at_itself s) refl
  removed_last (e ∷ es) s v h = rw (at_below s e.0 h.0) (ap (λ r. e ∷ r) (removed_last es s v h.1))

  module _ (g : X → Bool) where
    -- the serials of the entries that pass
    unfoldable pub kept : List (ℕ × X) → List ℕ
    kept [] = []
    kept (e ∷ es) = cond (g e.1) (e.0 ∷ kept es) (kept es)

    pub kept_is : (es : List (ℕ × X)) → keys_of (filter (λ e. g e.1) es) ≡ kept es
    unfolding kept
    kept_is [] = refl
    kept_is (e ∷ es) = by (g e.1) (kept_is es)
      where
        by : (b : Bool) → keys_of (filter (λ e. g e.1) es) ≡ kept es → keys_of (cond b (e ∷ filter (λ e. g e.1) es) (filter (λ e. g e.1) es)) ≡ cond b (e.0 ∷ kept es) (kept es)
        by true rest = ap (λ r. e.0 ∷ r) rest
        by false rest = rest

    pub kept_append : (es : List (ℕ × X)) (s : ℕ) (v : X) → kept (es ++ (s, v) ∷ []) ≡ cond (g v) (kept es ++ s ∷ []) (kept es)
    unfolding kept
    kept_append [] s v = refl
    kept_append (e ∷ es) s v = by (g e.1) (g v) (kept_append es s v)
      where
        by : (b c : Bool) → kept (es ++ (s, v) ∷ []) ≡ cond c (kept es ++ s ∷ []) (kept es)
            → cond b (e.0 ∷ kept (es ++ (s, v) ∷ [])) (kept (es ++ (s, v) ∷ [])) ≡ cond c (cond b (e.0 ∷ kept es) (kept es) ++ s ∷ []) (cond b (e.0 ∷ kept es) (kept es))
        by true true h = ap (λ r. e.0 ∷ r) h
        by true false h = ap (λ r. e.0 ∷ r) h
        by false true h = h
        by false false h = h

    -- another value that passes as the old one does
    pub kept_set : (test : ℕ → Bool) (es : List (ℕ × X)) (v w : X) → lookup test es ≡ Some v → g w ≡ g v → kept (set_value test es w) ≡ kept es
    unfolding kept
    kept_set test [] v w at same = absurd (cc at)
    kept_set test (e ∷ es) v w at same = by (test e.0) at (λ at. kept_set test es v w at same)
      where
        by : (b : Bool) → cond b (Some e.1) (lookup test es) ≡ Some v → (lookup test es ≡ Some v → kept (set_value test es w) ≡ kept es)
            → kept (cond b ((e.0, w) ∷ es) (e ∷ set_value test es w)) ≡ cond (g e.1) (e.0 ∷ kept es) (kept es)
        by true at rest = ap (λ b. cond b (e.0 ∷ kept es) (kept es)) (same ∙ ap g (sym (same_Some e.1 v at)))
        by false at rest = ap (λ r. cond (g e.1) (e.0 ∷ r) r) (rest at)

    -- an entry goes that doesn't pass
    pub kept_other : (test : ℕ → Bool) (es : List (ℕ × X)) (v : X) → lookup test es ≡ Some v → g v ≡ false → kept (remove_entry test es) ≡ kept es
    unfolding kept
    kept_other test [] v at off = refl
    kept_other test (e ∷ es) v at off = by (test e.0) at (λ at. kept_other test es v at off)
      where
        by : (b : Bool) → cond b (Some e.1) (lookup test es) ≡ Some v → (lookup test es ≡ Some v → kept (remove_entry test es) ≡ kept es)
            → kept (cond b es (e ∷ remove_entry test es)) ≡ cond (g e.1) (e.0 ∷ kept es) (kept es)
        by true at rest = rw (ap g (same_Some e.1 v at) ∙ off) refl
        by false at rest = ap (λ r. cond (g e.1) (e.0 ∷ r) r) (rest at)

    -- a serial below all others isn't among them
    pub without_above : (es : List (ℕ × X)) (s : ℕ) → AllByRecursion (λ q. nat_cmp s q ≡ Less) (keys_of es) → without s (kept es) ≡ kept es
    unfolding kept
    without_above [] s h = refl
    without_above (e ∷ es) s h = by (g e.1) (without_above es s h.1)
      where
        by : (b : Bool) → without s (kept es) ≡ kept es → without s (cond b (e.0 ∷ kept es) (kept es)) ≡ cond b (e.0 ∷ kept es) (kept es)
        by false rest = rest
        by true rest = rw (apart s e.0 (ap is_eq h.0)) (ap (λ r. e.0 ∷ r) rest)

    -- an entry goes
    pub kept_goes : (es : List (ℕ × X)) (s : ℕ) → IsStrictlySortedBy nat_cmp (keys_of es) → kept (remove_entry (is_at (nat_cmp s)) es) ≡ without s (kept es)
    unfolding kept IsStrictlySortedBy
    kept_goes [] s rising = refl
    kept_goes (e ∷ es) s rising = by (is_at (nat_cmp s) e.0) refl (g e.1) refl (kept_goes es s rising.1)
      where
        by : (b : Bool) → is_at (nat_cmp s) e.0 ≡ b → (c : Bool) → g e.1 ≡ c → kept (remove_entry (is_at (nat_cmp s)) es) ≡ without s (kept es)
            → kept (cond b es (e ∷ remove_entry (is_at (nat_cmp s)) es)) ≡ without s (cond c (e.0 ∷ kept es) (kept es))
        by true at false off rest = sym (rw (at_same s e.0 at) (without_above es e.0 rising.0))
        by true at true on rest = sym (without_head e.0 s (kept es) (at_same s e.0 at) (without_above es e.0 rising.0))
        by false at false off rest = rw off rest
        by false at true on rest = rw (on, apart s e.0 at) (ap (λ r. e.0 ∷ r) rest)

    -- the entry of this serial doesn't pass any more
    pub kept_leaves : (es : List (ℕ × X)) (s : ℕ) (w : X) → IsStrictlySortedBy nat_cmp (keys_of es) → g w ≡ false → kept (set_value (is_at (nat_cmp s)) es w) ≡ without s (kept es)
    unfolding kept IsStrictlySortedBy
    kept_leaves [] s w rising fails = refl
    kept_leaves (e ∷ es) s w rising fails = by (is_at (nat_cmp s) e.0) refl (g e.1) refl (kept_leaves es s w rising.1 fails)
      where
        by : (b : Bool) → is_at (nat_cmp s) e.0 ≡ b → (c : Bool) → g e.1 ≡ c → kept (set_value (is_at (nat_cmp s)) es w) ≡ without s (kept es)
            → kept (cond b ((e.0, w) ∷ es) (e ∷ set_value (is_at (nat_cmp s)) es w)) ≡ without s (cond c (e.0 ∷ kept es) (kept es))
        by true at false off rest = rw fails (sym (rw (at_same s e.0 at) (without_above es e.0 rising.0)))
        by true at true on rest = rw fails (sym (without_head e.0 s (kept es) (at_same s e.0 at) (without_above es e.0 rising.0)))
        by false at false off rest = rw off rest
        by false at true on rest = rw (on, apart s e.0 at) (ap (λ r. e.0 ∷ r) rest)

-- a key above all others comes to the end
pub key_last : (xs : List ℕ) (s : ℕ) → AreBelow s xs → insert_key nat_cmp xs s ≡ xs ++ s ∷ []
key_last [] s h = refl
key_last (x ∷ xs) s h = rw (sym (nat_cmp_is s x Greater h.0)) (ap (λ r. x ∷ r) (key_last xs s h.1))

none_above : (xs : List ℕ) (s : ℕ) → AllByRecursion (λ q. nat_cmp s q ≡ Less) xs → without s xs ≡ xs
none_above [] s h = refl
none_above (x ∷ xs) s h = rw (apart s x (ap is_eq h.0)) (ap (λ r. x ∷ r) (none_above xs s h.1))

-- of rising keys one goes
pub key_gone : (xs : List ℕ) (s : ℕ) → IsStrictlySortedBy nat_cmp xs → remove_key (is_at (nat_cmp s)) xs ≡ without s xs
unfolding IsStrictlySortedBy
key_gone [] s rising = refl
key_gone (x ∷ xs) s rising = by (is_at (nat_cmp s) x) refl (key_gone xs s rising.1)
  where
    by : (b : Bool) → is_at (nat_cmp s) x ≡ b → remove_key (is_at (nat_cmp s)) xs ≡ without s xs → cond b xs (x ∷ remove_key (is_at (nat_cmp s)) xs) ≡ without s (x ∷ xs)
    by true at rest = sym (without_head x s xs (at_same s x at) (none_above xs x rising.0))
    by false at rest = rw (apart s x at) (ap (λ r. x ∷ r) rest)

last_of : (x : ℕ) (xs : List ℕ) → slice_get (x ∷ xs) (length xs) ≡ last_or (Some x) xs
last_of x [] = refl
last_of x (y ∷ ys) = last_of y ys

pub last_is : (xs : List ℕ) → slice_get xs (length xs - 1) ≡ last_or None xs
last_is [] = refl
last_is (x ∷ xs) = (let e : length (x ∷ xs) - 1 ≡ length xs = omega arith in rw e (last_of x xs))

-- the last of a set's keys, as the set gives it
pub last_key : (xs : List ℕ) (o : Option (Bor ℕ)) → (0 < length xs → IsSome o) → IfSome o (λ k. slice_get xs (length xs - 1) ≡ Some k.now) → option_copied o ≡ last_or None xs
last_key xs (Some k) some last = sym last ∙ last_is xs
last_key [] None some last = refl
last_key (x ∷ xs) None some last = absurd (cc (some (omega arith)))
