-- Stored entries are read again.
use Rattle.std.proofs.Common.{false, true, ◌==◌, get_or, ℕ, ◌≡◌, ◌+◌, ◌-◌, ◌<◌, List, [], ◌∷◌, ◌++◌, length, refl, ap, sym, subst, ◌∙◌, arith, append_assoc, inl, inr}
use Rattle.std.specs.List.{AllByRecursion, concat}
use Rattle.std.proofs.lemmas.List.{append-nil, length-append, nil_from_length}
use Rattle.std.proofs.lemmas.Bool.{eqb-true}
use Rattle.msgpack_bytes.specs.declared.format.Container.TheVariants as container
use Rattle.msgpack_bytes.specs.Format.{shape_of}
use Rattle.msgpack_bytes.specs.Item.{IsContainerHeader, IsItemWithin}
use Rattle.event_modes.specs.declared.fault.ModeFault.{ModeFault}
use Rattle.event_modes.specs.Entry.{stored_entry, IsEntry}
use Rattle.event_modes.specs.Rows.{items_of, IsStored, AreStored, AreEntries, SomeEntries}
use Rattle.event_modes.specs.Faults.{PackedEnd}
use Rattle.event_modes.proofs.Parting.{IsItem, same_front, same_behind, some_item, text_item, front_nil, all_map}
use Rattle.event_modes.proofs.Counted.{are_items}
use Rattle.msgpack_bytes.proofs.Walk.{all_with}
use Rattle.event_modes.proofs.Stored.{concat-push}
use Rattle.event_modes.proofs.Only.{no_begin}

short_header : (h : List ℕ) → IsContainerHeader container.Array 2 (0x92 ∷ h) → h ≡ []
unfolding shape_of
short_header h (inl p) = p.1
short_header h (inr p) = absurd (let e = p.0 in cc)

-- an entry that begins as it is stored is stored so
pub is_kept : (entry stored : List ℕ) → IsItemWithin entry → get_or entry 0 0 ≡ 0x92 → IsEntry entry stored → IsStored entry
is_kept entry stored t f i = kept i.array.header i.array.counted i.array.whole
  where
    kept : (h : List ℕ) → IsContainerHeader container.Array 2 h → entry ≡ h ++ concat (i.time ∷ i.fields ∷ []) → IsStored entry
    kept [] c w = absurd c
    kept (b ∷ h) c w =
        let s : b ≡ 0x92 = sym (ap (λ (x : List ℕ). get_or x 0 0) w) ∙ f in
        let n = short_header h (subst (λ (x : ℕ). IsContainerHeader container.Array 2 (x ∷ h)) s c) in
        let whole : entry ≡ stored_entry i.time i.fields = w ∙ ap (λ (x : List ℕ). b ∷ x ++ concat (i.time ∷ i.fields ∷ [])) n ∙ ap (λ (x : ℕ). x ∷ (i.time ++ (i.fields ++ []))) s ∙ ap (λ (x : List ℕ). 0x92 ∷ i.time ++ x) (append-nil i.fields) in
        record { item = t; kept = subst (IsEntry entry) (i.is_stored ∙ sym whole) i }

-- what is stored begins so
pub first_byte : (entry : List ℕ) → IsStored entry → get_or entry 0 0 ≡ 0x92
first_byte entry s = ap (λ (x : List ℕ). get_or x 0 0) s.kept.is_stored

pub some_byte : (entry : List ℕ) → IsItemWithin entry → 0 < length entry
some_byte [] t = absurd (some_item (text_item [] t))
some_byte (x ∷ entry) t = omega arith

pub not_empty : (xs : List ℕ) → false ≡ (length xs == 0) → xs ≡ [] → ⊥
not_empty [] e n = cc
not_empty (x ∷ xs) e n = cc

pub empty : (xs : List ℕ) → true ≡ (length xs == 0) → xs ≡ []
empty xs e = nil_from_length xs (eqb-true (length xs) 0 (sym e))

-- how far the walk has come
pub record Counting (count : ℕ) (bytes rest : List ℕ) (left : ℕ) : Type 0 where
  pub before : List (List ℕ)
  pub each : AllByRecursion IsStored before
  pub all : length before + left ≡ count
  pub whole : bytes ≡ concat before ++ rest

pub counting_start : (count : ℕ) (bytes : List ℕ) → Counting count bytes bytes count
counting_start count bytes = record { before = []; each = tt; all = omega arith; whole = refl }

pub counting_more : (count : ℕ) (bytes rest entry behind : List ℕ) (left : ℕ) → Counting count bytes rest left → 0 < left → IsStored entry → rest ≡ entry ++ behind → Counting count bytes behind (left - 1)
counting_more count bytes rest entry behind left c l s e = record {
  before = c.before ++ entry ∷ [];
  each = all_with IsStored c.before entry c.each s;
  all = (let a = c.all in omega (arith, length-append c.before (entry ∷ [])));
  whole = c.whole ∙ ap (λ (x : List ℕ). concat c.before ++ x) e ∙ sym (append_assoc (concat c.before) entry behind) ∙ ap (λ (x : List ℕ). x ++ behind) (sym (concat-push c.before entry));
}

pub counting_end : (count : ℕ) (bytes rest : List ℕ) (left : ℕ) → Counting count bytes rest left → rest ≡ [] → left ≡ 0 → SomeEntries count bytes
counting_end count bytes rest left c e z =
    (c.before, record { each = c.each; all = (let a = c.all in omega arith); whole = sym (c.whole ∙ ap (λ (x : List ℕ). concat c.before ++ x) e ∙ append-nil (concat c.before)) })

-- entries that the bytes are go on behind those before
rest_entries : (before entries : List (List ℕ)) (rest : List ℕ) → AllByRecursion IsStored before → AllByRecursion IsStored entries → concat entries ≡ concat before ++ rest
    → (others : List (List ℕ)) × AllByRecursion IsStored others × (length entries ≡ length before + length others) × (concat others ≡ rest)
rest_entries [] entries rest b p e = (entries, p, omega arith, e)
rest_entries (x ∷ before) [] rest b p e = absurd (some_item (subst IsItem (front_nil x (concat before ++ rest) (sym (e ∙ append_assoc x (concat before) rest))) (text_item x b.0.item)))
rest_entries (x ∷ before) (y ∷ entries) rest b p e =
    let d : y ++ concat entries ≡ x ++ (concat before ++ rest) = e ∙ append_assoc x (concat before) rest in
    let r = rest_entries before entries rest b.1 p.1 (same_behind y x (concat entries) (concat before ++ rest) (text_item y p.0.item) (text_item x b.0.item) d) in
    (r.0, r.1, (let l = r.2 in omega arith), r.3)

pub record Others (rest : List ℕ) (left : ℕ) : Type 0 where
  pub others : List (List ℕ)
  pub each : AllByRecursion IsStored others
  pub all : length others ≡ left
  pub whole : concat others ≡ rest

pub others_of : (count : ℕ) (bytes rest : List ℕ) (left : ℕ) → Counting count bytes rest left → SomeEntries count bytes → Others rest left
others_of count bytes rest left c s =
    let r = rest_entries c.before s.0 rest c.each s.1.each (s.1.whole ∙ c.whole) in
    record { others = r.0; each = r.1; all = (let a = c.all in let b = s.1.all in let d = r.2 in omega arith); whole = r.3 }

-- where bytes are left, an entry is
pub first_other : (rest : List ℕ) (left : ℕ) → Others rest left → (rest ≡ [] → ⊥) → (entry : List ℕ) × (behind : List ℕ) × IsStored entry × (rest ≡ entry ++ behind) × (0 < left)
first_other rest left o n = first o.others o.each o.all o.whole
  where
    first : (xs : List (List ℕ)) → AllByRecursion IsStored xs → length xs ≡ left → concat xs ≡ rest → (entry : List ℕ) × (behind : List ℕ) × IsStored entry × (rest ≡ entry ++ behind) × (0 < left)
    first [] p l e = absurd (n (sym e))
    first (x ∷ xs) p l e = (x, concat xs, p.0, sym e, omega arith)

-- bytes with a fault in an entry's place are none
pub none_torn : (count : ℕ) (bytes rest : List ℕ) (left : ℕ) (fault : ModeFault) → Counting count bytes rest left → (rest ≡ [] → ⊥) → PackedEnd rest fault → SomeEntries count bytes → ⊥
none_torn count bytes rest left fault c n f s =
    let o = first_other rest left (others_of count bytes rest left c s) n in
    no_begin rest fault f (record { front = o.0; back = o.1; is = o.2.item; whole = o.3 })

pub none_more : (count : ℕ) (bytes rest : List ℕ) (left : ℕ) → Counting count bytes rest left → (rest ≡ [] → ⊥) → left ≡ 0 → SomeEntries count bytes → ⊥
none_more count bytes rest left c n z s =
    let o = first_other rest left (others_of count bytes rest left c s) n in
    let l = o.4 in omega arith

pub none_else : (count : ℕ) (bytes rest entry behind : List ℕ) (left : ℕ) → Counting count bytes rest left → (rest ≡ [] → ⊥) → IsItemWithin entry → rest ≡ entry ++ behind → (IsStored entry → ⊥) → SomeEntries count bytes → ⊥
none_else count bytes rest entry behind left c n t e m s =
    let o = first_other rest left (others_of count bytes rest left c s) n in
    m (subst IsStored (same_front o.0 entry o.1 behind (text_item o.0 o.2.item) (text_item entry t) (sym o.3 ∙ e)) o.2)

-- where no bytes are left, no entry is
pub none_left : (count : ℕ) (bytes rest : List ℕ) (left : ℕ) → Counting count bytes rest left → rest ≡ [] → SomeEntries count bytes → left ≡ 0
none_left count bytes rest left c e s = none o.others o.each o.all o.whole
  where
    o : Others rest left
    o = others_of count bytes rest left c s

    none : (xs : List (List ℕ)) → AllByRecursion IsStored xs → length xs ≡ left → concat xs ≡ rest → left ≡ 0
    none [] p l w = sym l
    none (x ∷ xs) p l w = absurd (some_item (subst IsItem (front_nil x (concat xs) (w ∙ e)) (text_item x p.0.item)))

-- there is one list of entries
pub one_list : (count : ℕ) (bytes : List ℕ) (xs : List (List ℕ)) → AreEntries xs count bytes → AreStored count bytes × (items_of count bytes ≡ xs)
one_list count bytes xs a =
    let r = are_items count bytes xs (sym a.all) (sym a.whole) (all_map IsStored IsItemWithin xs (λ x p. p.item) a.each) in
    (record { items = r.0; each = subst (AllByRecursion IsStored) (sym r.1) a.each }, r.1)
