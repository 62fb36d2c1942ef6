-- The entries of a tree as a finite map.
use Rattle.std.proofs.Common.{◌≡◌, ℕ, ◌+◌, length, false, cond, List, [], ◌∷◌, Option, Some, None, refl, sym, ap, ◌∙◌, arith}
use Rattle.std.specs.FinMap as map
use Rattle.std.specs.FinMap.{FinMap}
use Rattle.std.specs.BTreeMap.{is_at}
use Rattle.std.specs.Prelude.{is_some}
use Rattle.std.specs.List.{AllByRecursion, IsDistinct}
use Rattle.std.specs.Map.{lookup, keys_of}
use Rattle.std.specs.Ordering.{nat_cmp, eq_by_cmp}
use Rattle.std.specs.Cmp.{nat_cmp_total, eq_by_cmp_equiv}

module _ {X : Type 0} where
  -- the two ways to look a key up in a list of entries are one
  find_is : (es : List (ℕ × X)) (q : ℕ) → map.find nat_cmp q es ≡ lookup (is_at (nat_cmp q)) es
  find_is [] q = refl
  find_is (e ∷ es) q = ap (cond (is_at (nat_cmp q) e.0) (Some e.1)) (find_is es q)

  -- what the map has at a key is what the tree has there
  get_is : (es : List (ℕ × X)) (q : ℕ) → map.get (map.from_entries {R = nat_cmp} es) q ≡ lookup (is_at (nat_cmp q)) es
  get_is es q = map.get-from_entries nat_cmp_total es q ∙ find_is es q

  -- a look-up in the tree, as one in its map
  pub held_at : (es : List (ℕ × X)) (m : FinMap nat_cmp X) (q : ℕ) (o : Option X) → map.from_entries es ≡ m → o ≡ lookup (is_at (nat_cmp q)) es → map.get m q ≡ o
  held_at es m q o view tree = ap (λ n. map.get n q) (sym view) ∙ get_is es q ∙ sym tree

  -- a tree with another value at one key, or none there
  changed_at : (old new : List (ℕ × X)) (k : ℕ) (w : Option X) (m : FinMap nat_cmp X)
      → ((q : ℕ) → lookup (is_at (nat_cmp q)) new ≡ cond (is_at (nat_cmp k) q) w (lookup (is_at (nat_cmp q)) old))
      → ((q : ℕ) → map.get m q ≡ cond (eq_by_cmp nat_cmp q k) w (map.get (map.from_entries {R = nat_cmp} old) q))
      → map.from_entries {R = nat_cmp} new ≡ m
  changed_at old new k w m tree is = map.same_map nat_cmp_total map.nat_cmp-IsAntisymmetric _ _ (λ q.
      get_is new q ∙ tree q ∙ ap (λ b. cond b w (lookup (is_at (nat_cmp q)) old)) ((eq_by_cmp_equiv nat_cmp_total).symm k q)
      ∙ ap (cond (eq_by_cmp nat_cmp q k) w) (sym (get_is old q)) ∙ sym (is q))

  -- a tree into which a key is put
  pub put_at : (old new : List (ℕ × X)) (k : ℕ) (v : X)
      → ((q : ℕ) → lookup (is_at (nat_cmp q)) new ≡ cond (is_at (nat_cmp k) q) (Some v) (lookup (is_at (nat_cmp q)) old))
      → map.from_entries {R = nat_cmp} new ≡ map.insert (map.from_entries old) k v
  put_at old new k v tree = changed_at old new k (Some v) _ tree (map.get-insert nat_cmp_total (map.from_entries old) k v)

  -- a tree from which a key is taken
  pub taken_at : (old new : List (ℕ × X)) (k : ℕ)
      → ((q : ℕ) → lookup (is_at (nat_cmp q)) new ≡ cond (is_at (nat_cmp k) q) None (lookup (is_at (nat_cmp q)) old))
      → map.from_entries {R = nat_cmp} new ≡ map.remove (map.from_entries old) k
  taken_at old new k tree = changed_at old new k None _ tree (map.get-remove nat_cmp_total (map.from_entries old) k)

  -- a key that differs from all others isn't found among them
  no_key : (k : ℕ) (es : List (ℕ × X)) → AllByRecursion (λ q. eq_by_cmp nat_cmp k q ≡ false) (keys_of es) → lookup (is_at (nat_cmp k)) es ≡ None
  no_key k [] apart = refl
  no_key k (e ∷ es) apart = ap (λ b. cond b (Some e.1) (lookup (is_at (nat_cmp k)) es)) apart.0 ∙ no_key k es apart.1

  -- the map has as many keys as the tree
  pub len_is : (es : List (ℕ × X)) → IsDistinct (eq_by_cmp nat_cmp) (keys_of es) → map.len (map.from_entries {R = nat_cmp} es) ≡ length es
  unfolding IsDistinct
  len_is [] apart = map.len-empty nat_cmp X
  len_is (e ∷ es) apart =
      map.len-insert nat_cmp_total (map.from_entries es) e.0 e.1
      ∙ ap (λ o. cond (is_some o) (map.len (map.from_entries {R = nat_cmp} es)) (map.len (map.from_entries {R = nat_cmp} es) + 1)) (get_is es e.0 ∙ no_key e.0 es apart.0)
      ∙ ap (λ n. n + 1) (len_is es apart.1)
      ∙ omega arith
