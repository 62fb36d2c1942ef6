-- What the head of an item says of the item.
use Rattle.std.proofs.Common.{ℕ, zero, suc, ◌≡◌, ◌-◌, ◌*◌, ◌<◌, ◌≤◌, ℤ, Bool, true, false, List, [], ◌∷◌, ◌++◌, length, take, drop, refl, ap, sym, subst, ◌∙◌, arith, append_assoc, inl, inr, Option, Some, None}
use Rattle.std.specs.Prelude.{slice_range}
use Rattle.std.specs.List.{AllByRecursion, concat, flat_map}
use Rattle.std.proofs.lemmas.List.{append-nil, take-append-drop, length-append}
use Rattle.msgpack_bytes.specs.declared.answers.Head.{Head}
use Rattle.msgpack_bytes.specs.declared.answers.Head.TheVariants as head
use Rattle.msgpack_bytes.specs.declared.format.Kind.{Kind}
use Rattle.msgpack_bytes.specs.declared.format.Kind.TheVariants as kind
use Rattle.msgpack_bytes.specs.declared.format.Container.{Container}
use Rattle.msgpack_bytes.specs.declared.format.Container.TheVariants as container
use Rattle.msgpack_bytes.specs.Format.{items_in, shape_of}
use Rattle.msgpack_bytes.specs.Item.{IsContainerHeader, IsScalar, Spells, Item, IsItemWithin}
use Rattle.msgpack_bytes.specs.Parts.{Row}
use Rattle.msgpack_bytes.specs.Kinds.{IsBool, IsArrayHeader, IsMapHeader, IsInteger, Positive, Negative, Unsigned, Signed}
use Rattle.msgpack_bytes.specs.Answers.{IsHead}
use Rattle.msgpack_bytes.proofs.Contained.{row_items, pairs_map}
use Rattle.msgpack_bytes.proofs.Sound.{positive_shape, negative_shape}
use Rattle.msgpack_bytes.specs.Containers.{Pair, IsPair, pair_bytes, IsArray, IsMap}
use Rattle.event_modes.proofs.Parting.{same_front, item_cases, scalar_is_item, text_item}
use Rattle.event_modes.proofs.Begins.{family_of, family_in, BeginsAs, begins_one, begins_front, spells_begins, header_begins, one_header, array_begins, map_begins, nil_begins, int_begins}

-- the family of a head
abbrev family : Head → ℕ
family head.Nil = 0
family (head.Bool b) = 1
family (head.Int v) = 2
family head.Float = 3
family (head.Str s e) = 4
family (head.Bin s e) = 5
family (head.Ext t s e) = 6
family (head.Array c n) = 7
family (head.Map c n) = 8

pub span_front : (bytes : List ℕ) (n : ℕ) → bytes ≡ slice_range bytes 0 n ++ drop n bytes
span_front bytes n = let e : n - 0 ≡ n = omega arith in sym (take-append-drop n bytes) ∙ ap (λ (k : ℕ). take k bytes ++ drop n bytes) (sym e)

bool_begins : (b : Bool) (front : List ℕ) → IsBool b front → BeginsAs 1 front
unfolding shape_of
bool_begins true front e = subst (BeginsAs 1) (sym e) refl
bool_begins false front e = subst (BeginsAs 1) (sym e) refl

head_begins : (bytes : List ℕ) (h : Head) → IsHead bytes 0 (Some h) → BeginsAs (family h) bytes
head_begins bytes head.Nil p = begins_front 0 bytes p.front p.back (nil_begins p.front p.is) p.whole
head_begins bytes (head.Bool b) p = begins_front 1 bytes p.front p.back (bool_begins b p.front p.is) p.whole
head_begins bytes (head.Int v) p = begins_front 2 bytes p.front p.back (int_begins p.front v p.is) p.whole
head_begins bytes head.Float p = begins_front 3 bytes p.front p.back (spells_begins kind.Float p.front p.is.0 p.is.1) p.whole
head_begins bytes (head.Str s e) p = begins_front 4 bytes (slice_range bytes 0 e) (drop e bytes) (spells_begins kind.Str (slice_range bytes 0 e) (slice_range bytes s e) p.3) (span_front bytes e)
head_begins bytes (head.Bin s e) p = begins_front 5 bytes (slice_range bytes 0 e) (drop e bytes) (spells_begins kind.Bin (slice_range bytes 0 e) (slice_range bytes s e) p.3) (span_front bytes e)
head_begins bytes (head.Ext t s e) p = begins_front 6 bytes (slice_range bytes 0 e) (drop e bytes) (spells_begins kind.Ext (slice_range bytes 0 e) (t ∷ slice_range bytes s e) p.3) (span_front bytes e)
head_begins bytes (head.Array c n) p = begins_front 7 bytes (slice_range bytes 0 n) (drop n bytes) (header_begins container.Array c (slice_range bytes 0 n) p.2) (span_front bytes n)
head_begins bytes (head.Map c n) p = begins_front 8 bytes (slice_range bytes 0 n) (drop n bytes) (header_begins container.Map c (slice_range bytes 0 n) p.2) (span_front bytes n)

one_family : (bytes : List ℕ) (h : Head) (f : ℕ) → IsHead bytes 0 (Some h) → BeginsAs f bytes → f ≡ family h
one_family bytes h f p b = begins_one f (family h) bytes b (head_begins bytes h p)

-- ---- every item has a head

pub has_head : (bytes : List ℕ) → IsItemWithin bytes → IsHead bytes 0 None → ⊥
has_head bytes t none =
    elim (item_cases bytes (text_item bytes t)) [
      | inl s ↦ none.0 (record { front = bytes; back = []; is = s; whole = sym (append-nil bytes) })
      | inr c ↦ none.1 (record { front = c.header; back = c.inner; is = (c.container, c.n, c.counted); whole = c.whole })
    ]

-- ---- the parts of a container

pub no_scalar : (k : Kind) (c : Container) → family_of k ≡ family_in c → ⊥
no_scalar k c e = omega (arith, low k, high c)
  where
    low : (k : Kind) → family_of k < 7
    low kind.Nil = omega arith
    low kind.Bool = omega arith
    low kind.PositiveFixint = omega arith
    low kind.NegativeFixint = omega arith
    low kind.Unsigned = omega arith
    low kind.Signed = omega arith
    low kind.Float = omega arith
    low kind.Str = omega arith
    low kind.Bin = omega arith
    low kind.Ext = omega arith

    high : (c : Container) → 7 ≤ family_in c
    high container.Array = omega arith
    high container.Map = omega arith

pub same_container : (c d : Container) → family_in c ≡ family_in d → c ≡ d
same_container container.Array container.Array e = refl
same_container container.Array container.Map e = absurd (omega arith)
same_container container.Map container.Array e = absurd (omega arith)
same_container container.Map container.Map e = refl

-- behind its header a container has so many parts
pub container_parts : (c : Container) (n : ℕ) (h inner : List ℕ) → IsItemWithin (h ++ inner) → IsContainerHeader c n h → Row (Item 63) (items_in c n) inner
container_parts c n h inner t p =
    let b = begins_front (family_in c) (h ++ inner) h inner (header_begins c n h p) refl in
    elim (item_cases (h ++ inner) (text_item (h ++ inner) t)) [
      | inl s ↦ absurd (no_scalar s.kind c (begins_one (family_of s.kind) (family_in c) (h ++ inner) (spells_begins s.kind (h ++ inner) s.content s.spelled) b))
      | inr d ↦
          let g = begins_front (family_in d.container) (h ++ inner) d.header d.inner (header_begins d.container d.n d.header d.counted) d.whole in
          let e = same_container d.container c (begins_one (family_in d.container) (family_in c) (h ++ inner) g b) in
          let one = one_header c d.n n d.header h d.inner inner (subst (λ (k : Container). IsContainerHeader k d.n d.header) e d.counted) p (sym d.whole) in
          let m : items_in d.container d.n ≡ items_in c n = ap (λ (k : Container). items_in k d.n) e ∙ ap (items_in c) one.count in
          subst (λ (k : ℕ). Row (Item 63) k inner) m (subst (Row (Item 63) (items_in d.container d.n)) one.behind d.parts)
    ]

-- ---- texts

-- a part at the front that is a scalar is the whole of an item
scalar_item : (front back : List ℕ) → IsScalar front → IsItemWithin (front ++ back) → IsItemWithin front
scalar_item front back s t = record { item = scalar_is_item front s; short = omega (arith, t.short, length-append front back) }

scalar_all : (item front back : List ℕ) → IsItemWithin item → IsScalar front → item ≡ front ++ back → front ≡ item
scalar_all item front back t s e =
    let f = scalar_item front back s (subst IsItemWithin e t) in
    same_front front item back [] (text_item front f) (text_item item t) (sym e ∙ sym (append-nil item))

pub spells_all : (k : Kind) (item front back content : List ℕ) → IsItemWithin item → Spells k front content → item ≡ front ++ back → Spells k item content
spells_all k item front back content t s e =
    subst (λ (z : List ℕ). Spells k z content) (scalar_all item front back t (record { kind = k; content = content; spelled = s }) e) s

-- ---- arrays

pub is_array : (item : List ℕ) (count next : ℕ) → IsItemWithin item → IsHead item 0 (Some (head.Array count next))
    → (items : List (List ℕ)) × IsArray items item × (count ≡ length items) × (drop next item ≡ concat items)
is_array item count next t p =
    let e = span_front item next in
    let r = row_items (Item 63) count (drop next item) (container_parts container.Array count (slice_range item 0 next) (drop next item) (subst IsItemWithin e t) p.2) in
    let header : IsArrayHeader (length r.0) (slice_range item 0 next) = subst (λ (n : ℕ). IsArrayHeader n (slice_range item 0 next)) r.1 p.2 in
    (r.0, record { header = slice_range item 0 next; counted = header; all = refl; each = r.2; whole = e ∙ ap (λ (z : List ℕ). slice_range item 0 next ++ z) r.3 }, r.1, r.3)

pub no_array : (item : List ℕ) (h : Head) → IsHead item 0 (Some h) → ((c n : ℕ) → h ≡ head.Array c n → ⊥) → (items : List (List ℕ)) → IsArray items item → ⊥
no_array item (head.Array c n) p none items a = none c n refl
no_array item other p none items a = let e = one_family item other 7 p (array_begins items item a) in absurd (omega arith)

-- ---- maps

-- twice as many parts in a row are a list of pairs
pub row_pairs : (n : ℕ) (inner : List ℕ) → Row (Item 63) (2 * n) inner → (pairs : List Pair) × (n ≡ length pairs) × AllByRecursion IsPair pairs × (inner ≡ flat_map pair_bytes pairs)
row_pairs zero inner p = ([], refl, tt, p)
row_pairs (suc n) inner p =
    let two : 2 * suc n ≡ suc (suc (2 * n)) = omega arith in
    let q = subst (λ (k : ℕ). Row (Item 63) k inner) two p in
    let r = row_pairs n q.3.1 q.3.3 in (
      record { key = q.0; value = q.3.0 } ∷ r.0,
      ap suc r.1,
      (record { key = q.2; value = q.3.2 }, r.2),
      q.4 ∙ ap (λ (z : List ℕ). q.0 ++ z) (q.3.4 ∙ ap (λ (z : List ℕ). q.3.0 ++ z) r.3) ∙ sym (append_assoc q.0 q.3.0 (flat_map pair_bytes r.0)),
    )

pub is_map : (item : List ℕ) (count next : ℕ) → IsItemWithin item → IsHead item 0 (Some (head.Map count next))
    → (pairs : List Pair) × IsMap pairs item × (count ≡ length pairs) × (drop next item ≡ flat_map pair_bytes pairs)
is_map item count next t p =
    let e = span_front item next in
    let r = row_pairs count (drop next item) (container_parts container.Map count (slice_range item 0 next) (drop next item) (subst IsItemWithin e t) p.2) in
    let header : IsMapHeader (length r.0) (slice_range item 0 next) = subst (λ (n : ℕ). IsMapHeader n (slice_range item 0 next)) r.1 p.2 in
    (r.0, pairs_map r.0 item (record { header = slice_range item 0 next; counted = header; each = r.2; whole = e ∙ ap (λ (z : List ℕ). slice_range item 0 next ++ z) r.3 }), r.1, r.3)

pub no_map : (item : List ℕ) (h : Head) → IsHead item 0 (Some h) → ((c n : ℕ) → h ≡ head.Map c n → ⊥) → (pairs : List Pair) → IsMap pairs item → ⊥
no_map item (head.Map c n) p none pairs a = none c n refl
no_map item other p none pairs a = let e = one_family item other 8 p (map_begins pairs item a) in absurd (omega arith)

-- ---- integers

pub integer_scalar : (front : List ℕ) (v : ℤ) → IsInteger front v → IsScalar front
integer_scalar front v (Positive byte lt e m) =
    record { kind = kind.PositiveFixint; content = []; spelled = record { header = byte ∷ []; sized = inl (positive_shape byte lt, refl); whole = e } }
integer_scalar front v (Negative byte le e m) =
    record { kind = kind.NegativeFixint; content = []; spelled = record { header = byte ∷ []; sized = inl (negative_shape byte le, refl); whole = e } }
integer_scalar front v (Unsigned content s m) = record { kind = kind.Unsigned; content = content; spelled = s }
integer_scalar front v (Signed content s m) = record { kind = kind.Signed; content = content; spelled = s }

pub is_int : (item : List ℕ) (v : ℤ) → IsItemWithin item → IsHead item 0 (Some (head.Int v)) → (seconds : ℤ) × IsInteger item seconds
is_int item v t p = (v, subst (λ (z : List ℕ). IsInteger z v) (scalar_all item p.front p.back t (integer_scalar p.front v p.is) p.whole) p.is)

pub no_int : (item : List ℕ) (h : Head) → IsHead item 0 (Some h) → ((v : ℤ) → h ≡ head.Int v → ⊥) → (v : ℤ) → IsInteger item v → ⊥
no_int item (head.Int v) p none w i = none v refl
no_int item other p none w i = let e = one_family item other 2 p (int_begins item w i) in absurd (omega arith)

-- the head that was found, at its variant
pub headed : (bytes : List ℕ) (r : Option Head) (h k : Head) → r ≡ Some h → h ≡ k → IsHead bytes 0 r → IsHead bytes 0 (Some k)
headed bytes r h k e f p = subst (IsHead bytes 0) (e ∙ ap (λ (x : Head). Some x) f) p
