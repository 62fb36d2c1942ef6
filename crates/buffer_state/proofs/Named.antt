-- Sets that are kept by tags.
use Rattle.std.proofs.Common.{◌≡◌, ℕ, Bool, true, false, cond, List, [], ◌∷◌, ◌++◌, Some, None, refl, sym, ap, ◌∙◌}
use Rattle.std.specs.Prelude.{Vec}
use Rattle.std.specs.Option.{option_map_or}
use Rattle.std.specs.Str.{bytes_eq}
use Rattle.std.specs.Ordering.{nat_cmp, is_eq, match_ordering}
use Rattle.std.specs.declared.cmp.Ordering.{Ordering}
use Rattle.std.specs.declared.cmp.Ordering.TheVariants.{Less, Equal, Greater}
use Rattle.std.specs.Cmp.Lexicographic.{slice_cmp}
use Rattle.std.specs.BTreeMap.{is_at, insert_entry}
use Rattle.std.specs.BTreeSet.{BTreeSet}
use Rattle.std.specs.Map.{lookup, set_value, remove_entry}
use Rattle.std.proofs.lemmas.Map.Text.{is_eq-slice_cmp}
use Rattle.std.proofs.lemmas.Bool.{true≢false}
use Rattle.std.proofs.lemmas.Slice.Eq.{bytes_eq-Decides}

pub itself : (tag : List ℕ) → bytes_eq tag tag ≡ true
itself tag = (bytes_eq-Decides tag tag).1 refl

pub same_tag : (a b : List ℕ) → bytes_eq a b ≡ true → a ≡ b
same_tag a b = (bytes_eq-Decides a b).0

-- what two tests answer of tags that are the same
pub both : (a b c : List ℕ) → bytes_eq a b ≡ true → bytes_eq c a ≡ bytes_eq c b
both a b c e = ap (bytes_eq c) (same_tag a b e)

-- whether the key is this tag
abbrev pub named : {A : Type 0} → List ℕ → Vec ℕ A → Bool
named tag = is_at (λ key. slice_cmp nat_cmp tag key.items)

pub named_is : {A : Type 0} (tag : List ℕ) (key : Vec ℕ A) → named tag key ≡ bytes_eq tag key.items
named_is tag key = is_eq-slice_cmp tag key.items

-- a key that is this tag is another tag where the tags are the same
pub at_tag : {A : Type 0} (other tag : List ℕ) (key : Vec ℕ A) → named tag key ≡ true → named other key ≡ bytes_eq other tag
at_tag other tag key at = named_is other key ∙ sym (both tag key.items other (sym (named_is tag key) ∙ at))

-- a key that is one tag and not the other tells that they differ
pub off_tag : {A : Type 0} (other tag : List ℕ) (key : Vec ℕ A) → named tag key ≡ false → named other key ≡ true → bytes_eq other tag ≡ false
off_tag other tag key off at = by (bytes_eq other tag) refl
  where
    by : (d : Bool) → bytes_eq other tag ≡ d → d ≡ false
    by false same = refl
    by true same = absurd (true≢false (sym at ∙ named_is other key ∙ ap (λ t. bytes_eq t key.items) (same_tag other tag same) ∙ sym (named_is tag key) ∙ off))

module _ {A X : Type 0} where
  pub named_set : (es : List (Vec ℕ A × X)) (tag other : List ℕ) (v w : X) → lookup (named tag) es ≡ Some v
      → lookup (named other) (set_value (named tag) es w) ≡ cond (bytes_eq other tag) (Some w) (lookup (named other) es)
  named_set [] tag other v w at = absurd (cc at)
  named_set (e ∷ es) tag other v w at = by (named tag e.0) refl (named other e.0) refl (bytes_eq other tag) refl at (named_set es tag other v w)
    where
      pick : (d : Bool) → cond d (Some w) (lookup (named other) es) ≡ cond d (Some w) (cond d (Some e.1) (lookup (named other) es))
      pick true = refl
      pick false = refl

      by : (b : Bool) → named tag e.0 ≡ b → (c : Bool) → named other e.0 ≡ c → (d : Bool) → bytes_eq other tag ≡ d → cond b (Some e.1) (lookup (named tag) es) ≡ Some v
          → (lookup (named tag) es ≡ Some v → lookup (named other) (set_value (named tag) es w) ≡ cond (bytes_eq other tag) (Some w) (lookup (named other) es))
          → lookup (named other) (cond b ((e.0, w) ∷ es) (e ∷ set_value (named tag) es w)) ≡ cond d (Some w) (cond c (Some e.1) (lookup (named other) es))
      by true at c is d same found rest = (let same_test : c ≡ d = sym is ∙ at_tag other tag e.0 at ∙ same in rw (is, same_test) (pick d))
      by false at true is d same found rest = rw (is, sym same ∙ off_tag other tag e.0 at is) refl
      by false at false is d same found rest = rw is (rest found ∙ rw same refl)

  pub named_removed : (es : List (Vec ℕ A × X)) (tag other : List ℕ) → bytes_eq other tag ≡ false
      → lookup (named other) (remove_entry (named tag) es) ≡ lookup (named other) es
  named_removed [] tag other differ = refl
  named_removed (e ∷ es) tag other differ = by (named tag e.0) refl (named other e.0) refl (named_removed es tag other differ)
    where
      by : (b : Bool) → named tag e.0 ≡ b → (c : Bool) → named other e.0 ≡ c
          → lookup (named other) (remove_entry (named tag) es) ≡ lookup (named other) es
          → lookup (named other) (cond b es (e ∷ remove_entry (named tag) es)) ≡ cond c (Some e.1) (lookup (named other) es)
      by true at c is rest = (let off : c ≡ false = sym is ∙ at_tag other tag e.0 at ∙ differ in rw off refl)
      by false at c is rest = rw is (ap (λ r. cond c (Some e.1) r) rest)

  pub named_inserted : (es : List (Vec ℕ A × X)) (key : Vec ℕ A) (other : List ℕ) (v : X) → lookup (named key.items) es ≡ None
      → lookup (named other) (insert_entry (λ x y. slice_cmp nat_cmp x.items y.items) es key v) ≡ cond (bytes_eq other key.items) (Some v) (lookup (named other) es)
  named_inserted [] key other v none = rw (named_is other key) refl
  named_inserted (e ∷ es) key other v none =
      by (slice_cmp nat_cmp key.items e.0.items) refl (named other e.0) refl (bytes_eq other key.items) refl none (named_inserted es key other v)
    where
      by : (o : Ordering) → slice_cmp nat_cmp key.items e.0.items ≡ o → (c : Bool) → named other e.0 ≡ c → (d : Bool) → bytes_eq other key.items ≡ d
          → cond (is_eq o) (Some e.1) (lookup (named key.items) es) ≡ None
          → (lookup (named key.items) es ≡ None → lookup (named other) (insert_entry (λ x y. slice_cmp nat_cmp x.items y.items) es key v) ≡ cond (bytes_eq other key.items) (Some v) (lookup (named other) es))
          → lookup (named other) (match_ordering o ((key, v) ∷ e ∷ es) ((e.0, v) ∷ es) (e ∷ insert_entry (λ x y. slice_cmp nat_cmp x.items y.items) es key v)) ≡ cond d (Some v) (cond c (Some e.1) (lookup (named other) es))
      by Less at c is d same none rest = rw (named_is other key ∙ same, is) refl
      by Equal at c is d same none rest = absurd (cc none)
      by Greater at true is d same none rest = rw (is, sym same ∙ off_tag other key.items e.0 (ap is_eq at) is) refl
      by Greater at false is d same none rest = rw is (rest none ∙ rw same refl)

-- what sets have at a tag
abbrev pub serials : {A : Type 0} → List (Vec ℕ A × BTreeSet ℕ) → List ℕ → List ℕ
serials es tag = option_map_or (λ v. v.keys) (lookup (named tag) es) []

module _ {A : Type 0} where
  pub set_serials : (es es' : List (Vec ℕ A × BTreeSet ℕ)) (tag other : List ℕ) (v w : BTreeSet ℕ) (how : List ℕ → List ℕ)
      → lookup (named tag) es ≡ Some v → es' ≡ set_value (named tag) es w → w.keys ≡ how v.keys
      → serials es' other ≡ cond (bytes_eq other tag) (how (serials es other)) (serials es other)
  set_serials es es' tag other v w how found new items =
      rw (new, named_set es tag other v w found) (by (bytes_eq other tag) refl)
    where
      by : (d : Bool) → bytes_eq other tag ≡ d
          → option_map_or (λ v. v.keys) (cond d (Some w) (lookup (named other) es)) [] ≡ cond d (how (serials es other)) (serials es other)
      by true same = rw (same_tag other tag same, found) items
      by false same = refl

  pub gone_serials : (es es' : List (Vec ℕ A × BTreeSet ℕ)) (tag other : List ℕ) → es' ≡ remove_entry (named tag) es → lookup (named tag) es' ≡ None → serials es tag ≡ []
      → serials es' other ≡ serials es other
  gone_serials es es' tag other new none empty = by (bytes_eq other tag) refl
    where
      by : (d : Bool) → bytes_eq other tag ≡ d → serials es' other ≡ serials es other
      by true same = rw (same_tag other tag same, none) (sym empty)
      by false same = rw new (ap (λ o. option_map_or (λ v. v.keys) o []) (named_removed es tag other same))

  pub inserted_serials : (es es' : List (Vec ℕ A × BTreeSet ℕ)) (key : Vec ℕ A) (tag other : List ℕ) (v : BTreeSet ℕ) (serial : ℕ) → key.items ≡ tag → lookup (named tag) es ≡ None
      → es' ≡ insert_entry (λ x y. slice_cmp nat_cmp x.items y.items) es key v → v.keys ≡ serial ∷ []
      → serials es' other ≡ cond (bytes_eq other tag) (serials es other ++ serial ∷ []) (serials es other)
  inserted_serials es es' key tag other v serial is none new items =
      rw (new, named_inserted es key other v (rw is none), is) (by (bytes_eq other tag) refl)
    where
      by : (d : Bool) → bytes_eq other tag ≡ d
          → option_map_or (λ v. v.keys) (cond d (Some v) (lookup (named other) es)) [] ≡ cond d (serials es other ++ serial ∷ []) (serials es other)
      by true same = rw (same_tag other tag same, none) items
      by false same = refl

  pub same_serials : (es es' : List (Vec ℕ A × BTreeSet ℕ)) (tag other : List ℕ) (v w : BTreeSet ℕ)
      → lookup (named tag) es ≡ Some v → es' ≡ set_value (named tag) es w → w.keys ≡ v.keys → serials es' other ≡ serials es other
  same_serials es es' tag other v w found new items = set_serials es es' tag other v w (λ xs. xs) found new items ∙ by (bytes_eq other tag)
    where
      by : (d : Bool) → cond d (serials es other) (serials es other) ≡ serials es other
      by true = refl
      by false = refl

  pub set_empty : (es es' : List (Vec ℕ A × BTreeSet ℕ)) (tag : List ℕ) (v w : BTreeSet ℕ)
      → lookup (named tag) es ≡ Some v → es' ≡ set_value (named tag) es w → w.keys ≡ [] → serials es' tag ≡ []
  set_empty es es' tag v w found new items = set_serials es es' tag tag v w (λ xs. []) found new items ∙ by (bytes_eq tag tag) (itself tag)
    where
      by : (d : Bool) → d ≡ true → cond d [] (serials es tag) ≡ []
      by true e = refl
      by false e = absurd (true≢false (sym e))
