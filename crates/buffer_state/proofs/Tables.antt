-- What a change of one chunk does to the table.
use Rattle.std.proofs.Common.{◌≡◌, ℕ, ◌+◌, ◌<◌, ◌≤◌, ◌^◌, Bool, true, false, cond, List, [], ◌∷◌, ◌++◌, length, Some, option_map, refl, sym, ap, subst, ◌∙◌, length-append, arith}
use Rattle.std.specs.Prelude.{unwrap_or, ◌&&◌}
use Rattle.std.specs.Str.{bytes_eq}
use Rattle.std.specs.Ordering.{nat_cmp}
use Rattle.std.specs.BTreeMap.{is_at}
use Rattle.std.specs.List.{concat}
use Rattle.std.specs.List.Sorted.{IsStrictlySortedBy}
use Rattle.std.specs.Map.{set_value, remove_entry, keys_of, values_of}
use Rattle.std.proofs.lemmas.Map.{keys-set_value, length-set_value}
use Rattle.std.proofs.lemmas.Map.Entries.{sum_by-set_value, sum_by-remove_entry, length-values_of}
use Rattle.std.proofs.lemmas.List.Sums.{sum_by-le, sum_by-append}
use Rattle.std.proofs.lemmas.List.Elements.{All-append, All-cons, All-nil}
use Rattle.std.proofs.lemmas.List.{map-append}
use Rattle.std.proofs.lemmas.Map.Views.{IfSome-lookup_from_All}
use Rattle.std.proofs.lemmas.List.Folds.{concat-append}
use Rattle.std.proofs.lemmas.Map.Views.{All-values-set_value, All-map-remove_entry}
use Rattle.buffer_state.specs.declared.tags.TagIndex.{TagIndex}
use Rattle.buffer_state.specs.Tags.{serials_at, without}
use Rattle.buffer_state.specs.declared.chunk.Stage.{Stage}
use Rattle.buffer_state.specs.State.{is_staged, size}
use Rattle.buffer_state.specs.Slots.{Slot, Slots, grown, put, slot_at, slot_size, slots_size, staged_in, AreBelow}
use Rattle.buffer_state.specs.Steps.{greatest_size}
use Rattle.buffer_state.specs.Tables.{IsTable}
use Rattle.buffer_state.proofs.Serials.{if_some, kept, kept_append, kept_is, kept_set, kept_goes, kept_other, kept_leaves}

pub size_append : (xs ys : List (List ℕ)) → size (xs ++ ys) ≡ size xs + size ys
size_append xs ys = ap length (concat-append xs ys) ∙ length-append (concat xs) (concat ys)

-- whether a slot is staged and of this tag
abbrev pub passes : List ℕ → Slot → Bool
passes tag slot = is_staged slot.chunk.stage && bytes_eq tag slot.chunk.tag

pub staged_is : (slots : Slots) (tag : List ℕ) → staged_in slots tag ≡ kept (passes tag) slots
staged_is slots tag = kept_is (passes tag) slots

module _ (slots : Slots) (s : ℕ) (v w : Slot) (at : slot_at slots s ≡ Some v) where
  pub staged_same : (tag : List ℕ) → passes tag w ≡ passes tag v → staged_in (set_value (is_at (nat_cmp s)) slots w) tag ≡ staged_in slots tag
  staged_same tag same = staged_is _ tag ∙ kept_set (passes tag) _ slots v w at same ∙ sym (staged_is slots tag)

  pub staged_leaves : (tag : List ℕ) → IsStrictlySortedBy nat_cmp (keys_of slots) → passes tag w ≡ false
      → staged_in (set_value (is_at (nat_cmp s)) slots w) tag ≡ without s (staged_in slots tag)
  staged_leaves tag rising fails = staged_is _ tag ∙ kept_leaves (passes tag) slots s w rising fails ∙ ap (without s) (sym (staged_is slots tag))

  -- a chunk is changed
  pub set_fits : {A : Type 0} (tags tags' : TagIndex A) (total total' : ℕ) → IsTable slots tags total → slot_size w ≤ greatest_size
      → total' + slot_size v ≡ total + slot_size w → ((tag : List ℕ) → serials_at tags' tag ≡ staged_in (set_value (is_at (nat_cmp s)) slots w) tag)
      → IsTable (set_value (is_at (nat_cmp s)) slots w) tags' total'
  set_fits tags tags' total total' t small sum index = record {
    rising = rw (keys-set_value (is_at (nat_cmp s)) slots w) t.rising;
    few = rw (length-set_value (is_at (nat_cmp s)) slots w) t.few;
    small = All-values-set_value (is_at (nat_cmp s)) (λ (slot : Slot). slot_size slot ≤ greatest_size) slots w t.small small;
    summed = (let h = sum_by-set_value slot_size (is_at (nat_cmp s)) slots v w at in let e = t.summed in omega (arith, h, e, sum));
    indexed = index;
  }

below_kept : (g : Slot → Bool) (slots : Slots) (s : ℕ) → AreBelow s (keys_of slots) → AreBelow s (kept g slots)
unfolding kept
below_kept g [] s h = tt
below_kept g (e ∷ es) s h = by (g e.1) (below_kept g es s h.1)
  where
    by : (b : Bool) → AreBelow s (kept g es) → AreBelow s (cond b (e.0 ∷ kept g es) (kept g es))
    by true rest = (h.0, rest)
    by false rest = rest

-- a serial above all others is above those of a tag
pub below_staged : {A : Type 0} (slots : Slots) (tags : TagIndex A) (total s : ℕ) (tag : List ℕ) → IsTable slots tags total → AreBelow s (keys_of slots) → AreBelow s (serials_at tags tag)
below_staged slots tags total s tag t h = subst (AreBelow s) (sym (t.indexed tag ∙ staged_is slots tag)) (below_kept (passes tag) slots s h)

-- a chunk goes
pub gone_fits : {A : Type 0} (slots slots' : Slots) (s : ℕ) (v : Slot) (tags tags' : TagIndex A) (total total' : ℕ) → IsTable slots tags total → slot_at slots s ≡ Some v
    → slots' ≡ remove_entry (is_at (nat_cmp s)) slots → IsStrictlySortedBy nat_cmp (keys_of slots') → length slots' + 1 ≡ length slots → total' + slot_size v ≡ total
    → ((tag : List ℕ) → serials_at tags' tag ≡ staged_in slots' tag) → IsTable slots' tags' total'
gone_fits slots slots' s v tags tags' total total' t at new rising fewer sum index = record {
  rising = rising;
  few = (let e = t.few in omega (arith, e, fewer));
  small = rw new (All-map-remove_entry (is_at (nat_cmp s)) (λ (e : ℕ × Slot). e.1) (λ (slot : Slot). slot_size slot ≤ greatest_size) slots t.small);
  summed = rw new (let h = sum_by-remove_entry slot_size (is_at (nat_cmp s)) slots in let g : slots_size (remove_entry (is_at (nat_cmp s)) slots) + slot_size v ≡ slots_size slots = rw (ap (λ o. unwrap_or (option_map slot_size o) 0) (sym at)) h in let e = t.summed in omega (arith, g, e, sum));
  indexed = index;
}

pub staged_gone : (slots : Slots) (s : ℕ) (tag : List ℕ) → IsStrictlySortedBy nat_cmp (keys_of slots)
    → staged_in (remove_entry (is_at (nat_cmp s)) slots) tag ≡ without s (staged_in slots tag)
staged_gone slots s tag rising = staged_is _ tag ∙ kept_goes (passes tag) slots s rising ∙ ap (without s) (sym (staged_is slots tag))

pub staged_other : (slots : Slots) (s : ℕ) (v : Slot) (tag : List ℕ) → slot_at slots s ≡ Some v → passes tag v ≡ false
    → staged_in (remove_entry (is_at (nat_cmp s)) slots) tag ≡ staged_in slots tag
staged_other slots s v tag at fails = staged_is _ tag ∙ kept_other (passes tag) (is_at (nat_cmp s)) slots v at fails ∙ sym (staged_is slots tag)

-- the sum of all is small
pub total_small : {A : Type 0} (slots : Slots) (tags : TagIndex A) (total : ℕ) → IsTable slots tags total → total < 2 ^ 88
total_small slots tags total t =
    let h = sum_by-le slot_size greatest_size (values_of slots) t.small in
    let l = length-values_of slots in
    let few = t.few in
    let e = t.summed in
    omega (arith, h, l, few, e)

-- no chunk is too large
pub small_at : {A : Type 0} (slots : Slots) (tags : TagIndex A) (total : ℕ) (s : ℕ) (v : Slot) → IsTable slots tags total → slot_at slots s ≡ Some v → slot_size v ≤ greatest_size
small_at slots tags total s v t at = if_some _ (λ slot. slot_size slot ≤ greatest_size) v (IfSome-lookup_from_All (λ slot. slot_size slot ≤ greatest_size) (is_at (nat_cmp s)) slots t.small) at

-- a chunk grows
pub grown_fits : {A : Type 0} (slots : Slots) (tags : TagIndex A) (total s added : ℕ) (v : Slot) (piece : List (List ℕ)) → slot_at slots s ≡ Some v → IsTable slots tags total
    → added ≡ size piece → slot_size v + size piece ≤ greatest_size → IsTable (set_value (is_at (nat_cmp s)) slots (grown piece v)) tags (total + added)
grown_fits slots tags total s added v piece at t is small =
    let e : slot_size (grown piece v) ≡ slot_size v + size piece = size_append v.chunk.entries piece in
    set_fits slots s v (grown piece v) at tags tags total (total + added) t
    (rw e small)
    (rw (e, is) (omega arith))
    (λ tag. t.indexed tag ∙ sym (staged_same slots s v (grown piece v) at tag refl))

-- a new chunk comes, above all others
pub added_fits : {A : Type 0} (slots : Slots) (tags tags' : TagIndex A) (total s added : ℕ) (w : Slot) → IsTable slots tags total
    → IsStrictlySortedBy nat_cmp (keys_of (slots ++ (s, w) ∷ [])) → length (slots ++ (s, w) ∷ []) < 2 ^ 63 → slot_size w ≤ greatest_size → added ≡ slot_size w
    → ((tag : List ℕ) → serials_at tags' tag ≡ cond (passes tag w) (serials_at tags tag ++ s ∷ []) (serials_at tags tag))
    → IsTable (slots ++ (s, w) ∷ []) tags' (total + added)
added_fits slots tags tags' total s added w t rising few small is index = record {
  rising = rising;
  few = few;
  small = rw (map-append (λ (e : ℕ × Slot). e.1) slots ((s, w) ∷ [])) (All-append (λ (slot : Slot). slot_size slot ≤ greatest_size) (values_of slots) (w ∷ []) t.small (All-cons (λ (slot : Slot). slot_size slot ≤ greatest_size) w [] small (All-nil (λ (slot : Slot). slot_size slot ≤ greatest_size))));
  summed = (
      let h : slots_size (slots ++ (s, w) ∷ []) ≡ slots_size slots + (0 + slot_size w) = rw (map-append (λ (e : ℕ × Slot). e.1) slots ((s, w) ∷ [])) (sum_by-append slot_size (values_of slots) (w ∷ [])) in
      let e = t.summed in
      omega (arith, h, e, is)
      );
  indexed = λ tag. index tag ∙ by (passes tag w) tag (t.indexed tag) ∙ sym (staged_is (slots ++ (s, w) ∷ []) tag ∙ kept_append (passes tag) slots s w);
}
  where
    by : (b : Bool) (tag : List ℕ) → serials_at tags tag ≡ staged_in slots tag
        → cond b (serials_at tags tag ++ s ∷ []) (serials_at tags tag) ≡ cond b (kept (passes tag) slots ++ s ∷ []) (kept (passes tag) slots)
    by b tag h = ap (λ r. cond b (r ++ s ∷ []) r) (h ∙ staged_is slots tag)

-- the same table with an index that says the same
pub same_index : {A : Type 0} (slots slots' : Slots) (tags tags' : TagIndex A) (total : ℕ) → IsTable slots tags total → slots' ≡ slots
    → ((tag : List ℕ) → serials_at tags' tag ≡ serials_at tags tag) → IsTable slots' tags' total
same_index slots slots' tags tags' total t same index = rw same (record {
  rising = t.rising;
  few = t.few;
  small = t.small;
  summed = t.summed;
  indexed = λ tag. index tag ∙ t.indexed tag;
})

-- a staged chunk leaves that stage
pub left_fits : {A : Type 0} (slots : Slots) (tags tags' : TagIndex A) (total s : ℕ) (v : Slot) (stage : Stage) → slot_at slots s ≡ Some v → IsTable slots tags total
    → is_staged stage ≡ false → is_staged v.chunk.stage ≡ true
    → ((tag : List ℕ) → serials_at tags' tag ≡ cond (bytes_eq tag v.chunk.tag) (without s (serials_at tags tag)) (serials_at tags tag))
    → IsTable (set_value (is_at (nat_cmp s)) slots (put stage v)) tags' total
left_fits slots tags tags' total s v stage at t off on index = set_fits slots s v (put stage v) at tags tags' total total t
    (small_at slots tags total s v t at) refl
    (λ tag. index tag ∙ by (bytes_eq tag v.chunk.tag) tag refl (t.indexed tag))
  where
    by : (b : Bool) (tag : List ℕ) → bytes_eq tag v.chunk.tag ≡ b → serials_at tags tag ≡ staged_in slots tag
        → cond b (without s (serials_at tags tag)) (serials_at tags tag) ≡ staged_in (set_value (is_at (nat_cmp s)) slots (put stage v)) tag
    by true tag same h = ap (without s) h ∙ sym (staged_leaves slots s v (put stage v) at tag t.rising (rw off refl))
    by false tag same h = h ∙ sym (staged_same slots s v (put stage v) at tag (rw (off, on, same) refl))

-- a chunk that isn't staged is put into another stage
pub put_fits : {A : Type 0} (slots : Slots) (tags : TagIndex A) (total s : ℕ) (v : Slot) (stage : Stage) → slot_at slots s ≡ Some v → IsTable slots tags total
    → is_staged stage ≡ false → is_staged v.chunk.stage ≡ false → IsTable (set_value (is_at (nat_cmp s)) slots (put stage v)) tags total
put_fits slots tags total s v stage at t off was = set_fits slots s v (put stage v) at tags tags total total t
    (small_at slots tags total s v t at) refl
    (λ tag. t.indexed tag ∙ sym (staged_same slots s v (put stage v) at tag (rw (off, was) refl)))

-- a staged chunk goes
pub gone_staged : {A : Type 0} (slots slots' : Slots) (s : ℕ) (v : Slot) (tags tags' : TagIndex A) (total total' : ℕ) → IsTable slots tags total → slot_at slots s ≡ Some v
    → slots' ≡ remove_entry (is_at (nat_cmp s)) slots → IsStrictlySortedBy nat_cmp (keys_of slots') → length slots' + 1 ≡ length slots → total' + slot_size v ≡ total
    → is_staged v.chunk.stage ≡ true
    → ((tag : List ℕ) → serials_at tags' tag ≡ cond (bytes_eq tag v.chunk.tag) (without s (serials_at tags tag)) (serials_at tags tag))
    → IsTable slots' tags' total'
gone_staged slots slots' s v tags tags' total total' t at new rising fewer sum on index = gone_fits slots slots' s v tags tags' total total' t at new rising fewer sum
    (λ tag. index tag ∙ by (bytes_eq tag v.chunk.tag) tag refl (t.indexed tag) ∙ ap (λ r. staged_in r tag) (sym new))
  where
    by : (b : Bool) (tag : List ℕ) → bytes_eq tag v.chunk.tag ≡ b → serials_at tags tag ≡ staged_in slots tag
        → cond b (without s (serials_at tags tag)) (serials_at tags tag) ≡ staged_in (remove_entry (is_at (nat_cmp s)) slots) tag
    by true tag same h = ap (without s) h ∙ sym (staged_gone slots s tag t.rising)
    by false tag same h = h ∙ sym (staged_other slots s v tag at (rw (on, same) refl))

-- a chunk goes that isn't staged
pub gone_other : {A : Type 0} (slots slots' : Slots) (s : ℕ) (v : Slot) (tags : TagIndex A) (total total' : ℕ) → IsTable slots tags total → slot_at slots s ≡ Some v
    → slots' ≡ remove_entry (is_at (nat_cmp s)) slots → IsStrictlySortedBy nat_cmp (keys_of slots') → length slots' + 1 ≡ length slots → total' + slot_size v ≡ total
    → is_staged v.chunk.stage ≡ false → IsTable slots' tags total'
gone_other slots slots' s v tags total total' t at new rising fewer sum was = gone_fits slots slots' s v tags tags total total' t at new rising fewer sum
    (λ tag. t.indexed tag ∙ sym (staged_other slots s v tag at (rw was refl)) ∙ ap (λ r. staged_in r tag) (sym new))

-- a chunk is no larger than all together
pub part_of : {A : Type 0} (slots : Slots) (tags : TagIndex A) (total s : ℕ) (v : Slot) → IsTable slots tags total → slot_at slots s ≡ Some v → slot_size v ≤ total
part_of slots tags total s v t at =
    let h = sum_by-remove_entry slot_size (is_at (nat_cmp s)) slots in
    let g : slots_size (remove_entry (is_at (nat_cmp s)) slots) + slot_size v ≡ slots_size slots = rw (ap (λ o. unwrap_or (option_map slot_size o) 0) (sym at)) h in
    let e = t.summed in
    omega (arith, g, e)
