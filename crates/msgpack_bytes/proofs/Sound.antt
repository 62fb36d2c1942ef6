-- Each answer of `head` is right, and no other is.
use Rattle.std.proofs.Common.{ℕ, ℤ, suc, ◌≡◌, ◌+◌, ◌-◌, ◌<◌, ◌≤◌, nat_lt, cond, Bool, true, false, List, [], ◌∷◌, ◌++◌, length, take, drop, slice_range, slice_index, Option, Some, None, refl, ap, sym, ◌∙◌, arith, ◌⊎◌, inl, inr, length-drop}
use Rattle.std.proofs.lemmas.Grind.{common_steps}
use Rattle.std.proofs.lemmas.List.{drop-drop, length-take-le}
use Rattle.std.proofs.Math.Seq.{take-add}
use Rattle.msgpack_bytes.specs.declared.answers.Head.{Head}
use Rattle.msgpack_bytes.specs.declared.answers.Head.TheVariants as head
use Rattle.msgpack_bytes.specs.declared.format.Kind.{Kind}
use Rattle.msgpack_bytes.specs.declared.format.Kind.TheVariants as kind
use Rattle.msgpack_bytes.specs.declared.format.Container.{Container}
use Rattle.msgpack_bytes.specs.declared.format.Container.TheVariants.{Array, Map}
use Rattle.msgpack_bytes.specs.declared.format.Shape.{Shape}
use Rattle.msgpack_bytes.specs.declared.format.Shape.TheVariants.{Fixed, Sized, Holds, Counted, Never}
use Rattle.msgpack_bytes.specs.Format.{shape_of}
use Rattle.msgpack_bytes.specs.Item.{IsScalarHeader, IsContainerHeader, Spells, IsScalar}
use Rattle.msgpack_bytes.specs.Kinds.{IsNil, IsBool, IsInteger, IsExt}
use Rattle.msgpack_bytes.specs.Kinds.{Positive, Negative, Unsigned, Signed}
use Rattle.msgpack_bytes.specs.Answers.{Begins, IsSomeHeader, IsHead}
use Rattle.msgpack_bytes.specs.Run.{number}
use Rattle.msgpack_bytes.specs.Reads.{IsFitShape, IsFixedFit, IsSizedFit, scalar_head, container_head, some_scalar, some_container, head_by, head_at}
use Rattle.msgpack_bytes.proofs.Slices.{less_true, not_less, slice_length, slice_then, slice_first, slice_cons}
use Rattle.msgpack_bytes.proofs.Reading.{Found, found, found_container, number_take}

pub positive_shape : (byte : ℕ) → byte < 0x80 → shape_of byte ≡ Fixed kind.PositiveFixint 0
unfolding shape_of
positive_shape byte h = rw (less_true byte 0x80 h) refl

pub negative_shape : (byte : ℕ) → 0xe0 ≤ byte → shape_of byte ≡ Fixed kind.NegativeFixint 0
unfolding shape_of
negative_shape byte h = grind (arith, common_steps)

spells_byte : (byte : ℕ) (k : Kind) → shape_of byte ≡ Fixed k 0 → Spells k (byte ∷ []) []
spells_byte byte k e = record { header = byte ∷ []; sized = inl (e, refl); whole = refl }

-- an item of one byte is found by that byte
found_byte : (byte at : ℕ) (k : Kind) (bytes front back : List ℕ) → shape_of byte ≡ Fixed k 0 → front ≡ byte ∷ [] → drop at bytes ≡ front ++ back → (start : ℕ) × (end : ℕ) × (head_at bytes at ≡ Some (scalar_head k byte bytes (record { start = start; end = end })))
found_byte byte at k bytes front back e f g =
    let t = found k bytes (byte ∷ []) [] back at (spells_byte byte k e) (g ∙ rw f refl) in
    let same : t.first ≡ byte = (let b = t.begins in cc) in
    (t.start, t.end, rw same at t.head)

found_slice : (k : Kind) (bytes : List ℕ) (at end : ℕ) (content : List ℕ) → Spells k (slice_range bytes at end) content → Found k bytes at (slice_range bytes at end) content (drop (end - at) (drop at bytes))
found_slice k bytes at end content s = found k bytes (slice_range bytes at end) content (drop (end - at) (drop at bytes)) at s (slice_then bytes at end)

-- a scalar whose content is a slice is found at that slice
found_span : (k : Kind) (bytes : List ℕ) (at start end : ℕ) → at < start → start ≤ end → end ≤ length bytes → Spells k (slice_range bytes at end) (slice_range bytes start end)
    → (first : ℕ) × (head_at bytes at ≡ Some (scalar_head k first bytes (record { start = start; end = end })))
found_span k bytes at start end h le w s =
    let t = found_slice k bytes at end (slice_range bytes start end) s in
    let l = slice_length bytes at end (omega arith) w in
    let m = slice_length bytes start end le w in
    let inside = t.inside in
    let outside = t.outside in
    let last : t.end ≡ end = omega arith in
    let first : t.start ≡ start = omega arith in
    (t.first, rw (last, first) at t.head)

-- the one answer: whatever is right is what is computed
pub only_int : (bytes front back : List ℕ) (at : ℕ) (value : ℤ) → IsInteger front value → drop at bytes ≡ front ++ back → Some (head.Int value) ≡ head_at bytes at
only_int bytes front back at value (Positive byte lt f v) e =
    let t = found_byte byte at kind.PositiveFixint bytes front back (positive_shape byte lt) f e in rw v (sym t.2)
only_int bytes front back at value (Negative byte le f v) e =
    let t = found_byte byte at kind.NegativeFixint bytes front back (negative_shape byte le) f e in rw v (sym t.2)
only_int bytes front back at value (Unsigned content s v) e =
    let t = found kind.Unsigned bytes front content back at s e in rw (v, t.head, t.same) refl
only_int bytes front back at value (Signed content s v) e =
    let t = found kind.Signed bytes front content back at s e in rw (v, t.head, t.same) refl

only_bool : (value : Bool) (bytes front back : List ℕ) (at : ℕ) → IsBool value front → drop at bytes ≡ front ++ back → Some (head.Bool value) ≡ head_at bytes at
unfolding shape_of
only_bool true bytes front back at f e = let t = found_byte 0xc3 at kind.Bool bytes front back refl f e in sym t.2
only_bool false bytes front back at f e = let t = found_byte 0xc2 at kind.Bool bytes front back refl f e in sym t.2

only_nil : (bytes front back : List ℕ) (at : ℕ) → IsNil front → drop at bytes ≡ front ++ back → Some head.Nil ≡ head_at bytes at
unfolding shape_of
only_nil bytes front back at f e = let t = found_byte 0xc0 at kind.Nil bytes front back refl f e in sym t.2

only_ext : (bytes : List ℕ) (at byte start end : ℕ) → at < start → start ≤ end → end ≤ length bytes → IsExt byte (slice_range bytes at end) (slice_range bytes start end) → Some (head.Ext byte start end) ≡ head_at bytes at
only_ext bytes at byte start end h le w s =
    let t = found_slice kind.Ext bytes at end (byte ∷ slice_range bytes start end) s in
    let l = slice_length bytes at end (omega arith) w in
    let m = slice_length bytes start end le w in
    let inside = t.inside in
    let outside = t.outside in
    let last : t.end ≡ end = omega arith in
    let first : t.start + 1 ≡ start = omega arith in
    let own : slice_index bytes t.start ≡ byte = slice_first bytes (slice_range bytes start end) byte t.start t.end t.same in
    rw (t.head, own, last, first) refl

only_container : (container : Container) (bytes : List ℕ) (at n next : ℕ) → at < next → next ≤ length bytes → IsContainerHeader container n (slice_range bytes at next) → Some (container_head container (record { count = n; next = next })) ≡ head_at bytes at
only_container container bytes at n next h w s =
    let l = slice_length bytes at next (omega arith) w in
    sym (found_container container n at next bytes (slice_range bytes at next) (drop (next - at) (drop at bytes)) s (slice_then bytes at next) (omega arith))

-- whatever is right is what is computed, if that is something
pub only_some : (bytes : List ℕ) (at : ℕ) (h : Head) → IsHead bytes at (Some h) → Some h ≡ head_at bytes at
only_some bytes at head.Nil r = only_nil bytes r.front r.back at r.is r.whole
only_some bytes at (head.Bool value) r = only_bool value bytes r.front r.back at r.is r.whole
only_some bytes at (head.Int value) r = only_int bytes r.front r.back at value r.is r.whole
only_some bytes at head.Float r = let t = found kind.Float bytes r.front r.is.0 r.back at r.is.1 r.whole in sym t.head
only_some bytes at (head.Str start end) r = let t = found_span kind.Str bytes at start end r.0 r.1 r.2 r.3 in sym t.1
only_some bytes at (head.Bin start end) r = let t = found_span kind.Bin bytes at start end r.0 r.1 r.2 r.3 in sym t.1
only_some bytes at (head.Ext byte start end) r = only_ext bytes at byte start end r.0 r.1 r.2 r.3
only_some bytes at (head.Array n next) r = only_container Array bytes at n next r.0 r.1 r.2
only_some bytes at (head.Map n next) r = only_container Map bytes at n next r.0 r.1 r.2

-- where nothing is computed, there is nothing
pub none_right : (bytes : List ℕ) (at : ℕ) → head_at bytes at ≡ None → IsHead bytes at None
none_right bytes at e = (
  λ scalar. (let t = found scalar.is.kind bytes scalar.front scalar.is.content scalar.back at scalar.is.spelled scalar.whole in let f = sym e ∙ t.head in cc),
  λ header. (let t = found_container header.is.0 header.is.1 at (at + length header.front) bytes header.front header.back header.is.2 header.whole refl in let f = sym e ∙ t in cc),
)

-- the content that is computed
spelled : (k : Kind) (bytes : List ℕ) (at first w n start end : ℕ) → drop at bytes ≡ first ∷ drop (at + 1) bytes → w + n ≤ length (drop (at + 1) bytes)
    → start ≡ at + 1 + w → end ≡ start + n → at < length bytes → IsScalarHeader k n (first ∷ take w (drop (at + 1) bytes)) → Spells k (slice_range bytes at end) (slice_range bytes start end)
spelled k bytes at first w n start end e h p q lt s =
    let rest : List ℕ = drop (at + 1) bytes in
    let dropped = length-drop (at + 1) bytes in
    let size = slice_length bytes start end (omega arith) (omega arith) in
    let own : length (slice_range bytes start end) ≡ n = omega arith in
    let all : end - at ≡ suc (w + n) = omega arith in
    let content : end - start ≡ n = omega arith in
    let behind : drop w rest ≡ drop start bytes = drop-drop w (at + 1) bytes ∙ ap (λ (i : ℕ). drop i bytes) (sym p) in
    record {
      header = first ∷ take w rest;
      sized = rw own s;
      whole = rw (all, e, take-add w n rest, behind, content) refl;
    }

scalar_right : (k : Kind) (bytes : List ℕ) (at first start end : ℕ) → at < start → start ≤ end → end ≤ length bytes → Spells k (slice_range bytes at end) (slice_range bytes start end)
    → drop at bytes ≡ first ∷ drop (at + 1) bytes → IsFixedFit first k (end - start) → IsHead bytes at (Some (scalar_head k first bytes (record { start = start; end = end })))
scalar_right kind.Nil bytes at first start end h le w s e fit = record { front = first ∷ []; back = drop (at + 1) bytes; is = rw fit refl; whole = e }
scalar_right kind.Bool bytes at first start end h le w s e (inl f) = record { front = first ∷ []; back = drop (at + 1) bytes; is = rw f refl; whole = e }
scalar_right kind.Bool bytes at first start end h le w s e (inr f) = record { front = first ∷ []; back = drop (at + 1) bytes; is = rw f refl; whole = e }
scalar_right kind.PositiveFixint bytes at first start end h le w s e fit = record { front = first ∷ []; back = drop (at + 1) bytes; is = Positive first fit refl refl; whole = e }
scalar_right kind.NegativeFixint bytes at first start end h le w s e fit = record { front = first ∷ []; back = drop (at + 1) bytes; is = Negative first fit refl refl; whole = e }
scalar_right kind.Unsigned bytes at first start end h le w s e fit =
    record { front = slice_range bytes at end; back = drop (end - at) (drop at bytes); is = Unsigned (slice_range bytes start end) s refl; whole = slice_then bytes at end }
scalar_right kind.Signed bytes at first start end h le w s e fit =
    record { front = slice_range bytes at end; back = drop (end - at) (drop at bytes); is = Signed (slice_range bytes start end) s refl; whole = slice_then bytes at end }
scalar_right kind.Float bytes at first start end h le w s e fit =
    record { front = slice_range bytes at end; back = drop (end - at) (drop at bytes); is = (slice_range bytes start end, s); whole = slice_then bytes at end }
scalar_right kind.Str bytes at first start end h le w s e fit = (h, le, w, s)
scalar_right kind.Bin bytes at first start end h le w s e fit = (h, le, w, s)
scalar_right kind.Ext bytes at first start end h le w s e fit =
    let lt : start < end = omega arith in
    let same = slice_cons bytes start end lt w in
    (omega arith, omega arith, w, rw same at s)

sized_fit : (k : Kind) (first extra n m : ℕ) → IsSizedFit k extra → m ≡ n + extra → IsFixedFit first k m
sized_fit kind.Nil first extra n m fit e = absurd fit
sized_fit kind.Bool first extra n m fit e = absurd fit
sized_fit kind.PositiveFixint first extra n m fit e = absurd fit
sized_fit kind.NegativeFixint first extra n m fit e = absurd fit
sized_fit kind.Unsigned first extra n m fit e = absurd fit
sized_fit kind.Signed first extra n m fit e = absurd fit
sized_fit kind.Float first extra n m fit e = absurd fit
sized_fit kind.Str first extra n m fit e = tt
sized_fit kind.Bin first extra n m fit e = tt
sized_fit kind.Ext first extra n m fit e = omega arith

fixed_fit : (k : Kind) (first n m : ℕ) → IsFixedFit first k n → m ≡ n → IsFixedFit first k m
fixed_fit k first n m fit e = rw e fit

container_right : (container : Container) (bytes : List ℕ) (at n next : ℕ) → at < next → next ≤ length bytes → IsContainerHeader container n (slice_range bytes at next)
    → IsHead bytes at (Some (container_head container (record { count = n; next = next })))
container_right Array bytes at n next h w s = (h, w, s)
container_right Map bytes at n next h w s = (h, w, s)

abbrev Begun : List ℕ → Type 0
Begun bytes = Begins IsScalar bytes ⊎ Begins IsSomeHeader bytes

begun_scalar : (k : Kind) (bytes front content back : List ℕ) → Spells k front content → bytes ≡ front ++ back → Begun bytes
begun_scalar k bytes front content back s e = inl (record { front = front; back = back; is = record { kind = k; content = content; spelled = s }; whole = e })

begun_byte : (byte : ℕ) (k : Kind) (bytes front back : List ℕ) → shape_of byte ≡ Fixed k 0 → front ≡ byte ∷ [] → bytes ≡ front ++ back → Begun bytes
begun_byte byte k bytes front back q f e = begun_scalar k bytes (byte ∷ []) [] back (spells_byte byte k q) (rw f at e)

begun_int : (bytes front back : List ℕ) (value : ℤ) → IsInteger front value → bytes ≡ front ++ back → Begun bytes
begun_int bytes front back value (Positive byte lt f v) e = begun_byte byte kind.PositiveFixint bytes front back (positive_shape byte lt) f e
begun_int bytes front back value (Negative byte le f v) e = begun_byte byte kind.NegativeFixint bytes front back (negative_shape byte le) f e
begun_int bytes front back value (Unsigned content s v) e = begun_scalar kind.Unsigned bytes front content back s e
begun_int bytes front back value (Signed content s v) e = begun_scalar kind.Signed bytes front content back s e

begun_slice : (k : Kind) (bytes content : List ℕ) (at end : ℕ) → Spells k (slice_range bytes at end) content → Begun (drop at bytes)
begun_slice k bytes content at end s = begun_scalar k (drop at bytes) (slice_range bytes at end) content (drop (end - at) (drop at bytes)) s (slice_then bytes at end)

begun_header : (container : Container) (n : ℕ) (bytes : List ℕ) (at next : ℕ) → IsContainerHeader container n (slice_range bytes at next) → Begun (drop at bytes)
begun_header container n bytes at next s = inr (record { front = slice_range bytes at next; back = drop (next - at) (drop at bytes); is = (container, n, s); whole = slice_then bytes at next })

-- where something is right, a scalar or a header begins
pub begun : (bytes : List ℕ) (at : ℕ) (h : Head) → IsHead bytes at (Some h) → Begun (drop at bytes)
unfolding shape_of
begun bytes at head.Nil r = begun_byte 0xc0 kind.Nil (drop at bytes) r.front r.back refl r.is r.whole
begun bytes at (head.Bool true) r = begun_byte 0xc3 kind.Bool (drop at bytes) r.front r.back refl r.is r.whole
begun bytes at (head.Bool false) r = begun_byte 0xc2 kind.Bool (drop at bytes) r.front r.back refl r.is r.whole
begun bytes at (head.Int value) r = begun_int (drop at bytes) r.front r.back value r.is r.whole
begun bytes at head.Float r = begun_scalar kind.Float (drop at bytes) r.front r.is.0 r.back r.is.1 r.whole
begun bytes at (head.Str start end) r = begun_slice kind.Str bytes (slice_range bytes start end) at end r.3
begun bytes at (head.Bin start end) r = begun_slice kind.Bin bytes (slice_range bytes start end) at end r.3
begun bytes at (head.Ext byte start end) r = begun_slice kind.Ext bytes (byte ∷ slice_range bytes start end) at end r.3
begun bytes at (head.Array n next) r = begun_header Array n bytes at next r.2
begun bytes at (head.Map n next) r = begun_header Map n bytes at next r.2

module _ (bytes : List ℕ) (at first : ℕ) (lt : at < length bytes) (e : drop at bytes ≡ first ∷ drop (at + 1) bytes) where
  abbrev rest : List ℕ
  rest = drop (at + 1) bytes

  abbrev Computed : Shape → Type 0
  Computed s = head_by s first bytes (at + 1) rest ≡ head_at bytes at

  abbrev Right : Shape → Type 0
  Right s = IsHead bytes at (head_by s first bytes (at + 1) rest)

  dropped : length rest ≡ length bytes - (at + 1)
  dropped = length-drop (at + 1) bytes

  fixed_right : (k : Kind) (size : ℕ) → shape_of first ≡ Fixed k size → IsFixedFit first k size → size ≤ length rest
      → IsHead bytes at (Some (scalar_head k first bytes (record { start = at + 1; end = at + 1 + size })))
  fixed_right k size q fit h =
      let d = dropped in
      let s = spelled k bytes at first 0 size (at + 1) (at + 1 + size) e (omega arith) (omega arith) refl lt (inl (q, refl)) in
      scalar_right k bytes at first (at + 1) (at + 1 + size) (omega arith) (omega arith) (omega arith) s e (fixed_fit k first size (at + 1 + size - (at + 1)) fit (omega arith))

  sized_right : (k : Kind) (width extra : ℕ) → shape_of first ≡ Sized k width extra → IsSizedFit k extra → width + (number width rest + extra) ≤ length rest
      → IsHead bytes at (Some (scalar_head k first bytes (record { start = at + 1 + width; end = at + 1 + width + (number width rest + extra) })))
  sized_right k width extra q fit h =
      let d = dropped in
      let n : ℕ = number width rest + extra in
      let start : ℕ = at + 1 + width in
      let size = length-take-le width rest (omega arith) in
      let same = number_take width rest (omega arith) in
      let s = spelled k bytes at first width n start (start + n) e h refl refl lt (inr (extra, q ∙ ap (λ (w : ℕ). Sized k w extra) (sym size), ap (λ (m : ℕ). m + extra) (sym same))) in
      scalar_right k bytes at first start (start + n) (omega arith) (omega arith) (omega arith) s e (sized_fit k first extra (number width rest) (start + n - start) fit (omega arith))

  counted_right : (container : Container) (w n : ℕ) → w ≤ length rest → IsContainerHeader container n (first ∷ take w rest) → IsHead bytes at (Some (container_head container (record { count = n; next = at + 1 + w })))
  counted_right container w n h s =
      let d = dropped in
      let all : at + 1 + w - at ≡ suc w = omega arith in
      container_right container bytes at n (at + 1 + w) (omega arith) (omega arith) (rw (all, e) s)

  computed : head_at bytes at ≡ head_by (shape_of first) first bytes (at + 1) rest
  unfolding head_at
  computed = rw e refl

  by_shape : (s : Shape) → shape_of first ≡ s → IsFitShape first s → Right s
  by_shape (Fixed k size) q fit =
      elim (nat_lt (length rest) size) as (λ b. nat_lt (length rest) size ≡ b → IsHead bytes at (some_scalar k first bytes (cond b None (Some (record { start = at + 1; end = at + 1 + size }))))) [
        | true ↦ λ t. none_right bytes at (computed ∙ rw (q, t) refl)
        | false ↦ λ t. fixed_right k size q fit.0 (not_less (length rest) size t)
      ] refl
  by_shape (Sized k width extra) q fit =
      let n : ℕ = width + (number width rest + extra) in
      elim (nat_lt (length rest) n) as (λ b. nat_lt (length rest) n ≡ b → IsHead bytes at (some_scalar k first bytes (cond b None (Some (record { start = at + 1 + width; end = at + 1 + width + (number width rest + extra) }))))) [
        | true ↦ λ t. none_right bytes at (computed ∙ rw (q, t) refl)
        | false ↦ λ t. sized_right k width extra q fit.0 (not_less (length rest) n t)
      ] refl
  by_shape (Holds container count) q fit =
      let same : at + 1 ≡ at + 1 + 0 = omega arith in
      rw same (counted_right container 0 count (omega arith) (inl (q, refl)))
  by_shape (Counted container width) q fit =
      elim (nat_lt (length rest) width) as (λ b. nat_lt (length rest) width ≡ b → IsHead bytes at (some_container container (cond b None (Some (record { count = number width rest; next = at + 1 + width }))))) [
        | true ↦ λ t. none_right bytes at (computed ∙ rw (q, t) refl)
        | false ↦ λ t. (let h = not_less (length rest) width t in counted_right container width (number width rest) h (inr (q ∙ ap (λ (w : ℕ). Counted container w) (sym (length-take-le width rest h)), sym (number_take width rest h))))
      ] refl
  by_shape Never q fit = none_right bytes at (computed ∙ rw q refl)

  -- what is computed is right
  pub computed_right : IsFitShape first (shape_of first) → IsHead bytes at (head_by (shape_of first) first bytes (at + 1) rest)
  computed_right fit = by_shape (shape_of first) refl fit

  -- and nothing else is
  pub computed_only : IsFitShape first (shape_of first) → (other : Option Head) → IsHead bytes at other → other ≡ head_by (shape_of first) first bytes (at + 1) rest
  computed_only fit (Some h) r = only_some bytes at h r ∙ computed
  computed_only fit None r =
      elim (head_by (shape_of first) first bytes (at + 1) rest) as (λ found. head_by (shape_of first) first bytes (at + 1) rest ≡ found → None ≡ found) [
        | None ↦ λ t. refl
        | Some h ↦ λ t. (let right : IsHead bytes at (Some h) = rw t at (computed_right fit) in absurd (elim (begun bytes at h right) [ inl scalar ↦ r.0 scalar | inr header ↦ r.1 header ]))
      ] refl
