-- What the head of a scalar says of the item, and the kinds that an item is of.
use Rattle.std.proofs.Common.{ℕ, ℤ, pos, ◌≡◌, ◌+◌, ◌-◌, ◌*◌, ◌^◌, ◌<◌, ◌≤◌, ◌⊎◌, Bool, true, false, List, [], ◌∷◌, ◌++◌, length, drop, slice_range, Option, Some, None, MatchOption, Bor, refl, ap, sym, subst, ◌∙◌, arith, inl, inr, length-append, slice_index_or}
use Rattle.std.proofs.lemmas.List.{append-nil}
use Rattle.std.proofs.lemmas.Grind.{common_steps}
use Rattle.msgpack_bytes.specs.declared.answers.Head.{Head}
use Rattle.msgpack_bytes.specs.declared.answers.Head.TheVariants as head
use Rattle.msgpack_bytes.specs.declared.format.Kind.{Kind}
use Rattle.msgpack_bytes.specs.declared.format.Kind.TheVariants as kind
use Rattle.msgpack_bytes.specs.declared.format.Shape.{Shape}
use Rattle.msgpack_bytes.specs.declared.format.Shape.TheVariants.{Fixed, Sized, Holds, Counted, Never}
use Rattle.msgpack_bytes.specs.Format.{shape_of, big_endian}
use Rattle.msgpack_bytes.specs.Sizes.{Sizes}
use Rattle.msgpack_bytes.specs.Item.{IsScalarHeader, Spells, IsItemWithin}
use Rattle.msgpack_bytes.specs.Kinds.{IsStr}
use Rattle.msgpack_bytes.specs.Answers.{IsHead}
use Rattle.msgpack_bytes.proofs.Headers.{scalar_sizes}
use Rattle.msgpack_bytes.proofs.Slices.{drop_behind, slice_front}
use Rattle.event_modes.proofs.Begins.{text_one}
use Rattle.event_modes.proofs.Heads.{spells_all, span_front}
use Rattle.event_listing.specs.Json.{IsName, IsUnmarked}

-- ---- strs

some_header : (k : Kind) (n : ℕ) (h : List ℕ) → IsScalarHeader k n h → 0 < length h
some_header k n [] s = absurd s
some_header k n (x ∷ h) s = omega arith

-- a str has the head of one
pub str_head : (item content : List ℕ) → IsStr item content → IsHead item 0 (Some (head.Str (length item - length content) (length item)))
str_head item content s =
    let n : length item ≡ length s.header + length content = ap length s.whole ∙ length-append s.header content in
    let some = some_header kind.Str (length content) s.header s.sized in
    let all : slice_range item 0 (length item) ≡ item = slice_front item item [] 0 (length item) (sym (append-nil item)) (omega arith) in
    let behind : drop (length item - length content) item ≡ content = drop_behind item s.header content 0 (length item - length content) s.whole (omega arith) in
    let tail : slice_range item (length item - length content) (length item) ≡ content =
    slice_front item content [] (length item - length content) (length item) (behind ∙ sym (append-nil content)) (omega arith) in
    (omega arith, omega arith, omega arith, subst (λ (z : List ℕ). IsStr z (slice_range item (length item - length content) (length item))) (sym all) (subst (IsStr item) (sym tail) s))

-- what has another head is none
pub no_str : (item : List ℕ) (r : Option Head) (h : Head) → r ≡ Some h → ((s e : ℕ) → h ≡ head.Str s e → ⊥) → ((other : Option Head) → IsHead item 0 other → other ≡ r) → (content : List ℕ) → IsStr item content → ⊥
no_str item r h e none only content s =
    let o = only (Some (head.Str (length item - length content) (length item))) (str_head item content s) in
    none (length item - length content) (length item) (let f = o ∙ e in cc)

-- what has no head is none
pub no_head_str : (item : List ℕ) (r : Option Head) → r ≡ None → ((other : Option Head) → IsHead item 0 other → other ≡ r) → (content : List ℕ) → IsStr item content → ⊥
no_head_str item r e only content s =
    let o = only (Some (head.Str (length item - length content) (length item))) (str_head item content s) in
    (let f = o ∙ e in absurd cc)

-- a scalar whose head was found, whole
pub str_whole : (item : List ℕ) (start end : ℕ) → IsItemWithin item → IsHead item 0 (Some (head.Str start end)) → IsStr item (slice_range item start end)
str_whole item start end t p = spells_all kind.Str item (slice_range item 0 end) (drop end item) (slice_range item start end) t p.3 (span_front item end)

pub name_cases : (o : Option (Bor (List ℕ))) (item content : List ℕ) → IsStr item content → MatchOption o (IsUnmarked content → ⊥) (λ name. IsUnmarked content × (name.now ≡ content))
    → MatchOption o ((name : List ℕ) → IsName item name → ⊥) (λ name. IsName item name.now)
name_cases None item content s m = λ name n. m (subst IsUnmarked (text_one item name content (inl n.str) (inl s)) n.unmarked)
name_cases (Some x) item content s m = record { str = subst (IsStr item) (sym m.1) s; unmarked = subst IsUnmarked (sym m.1) m.0 }

-- ---- floats

float_four : (byte n : ℕ) → shape_of byte ≡ Fixed kind.Float n → n ≡ 4 → byte ≡ 0xca
unfolding shape_of
float_four byte n e m = grind (arith, common_steps)

float_other : (byte n : ℕ) → shape_of byte ≡ Fixed kind.Float n → (n ≡ 4 → ⊥) → byte ≡ 0xcb
unfolding shape_of
float_other byte n e m = grind (arith, common_steps)

float_eight : (byte n : ℕ) → shape_of byte ≡ Fixed kind.Float n → (n ≡ 4 → ⊥) → n ≡ 8
unfolding shape_of
float_eight byte n e m = grind (arith, common_steps)

float_sized : (byte w extra : ℕ) → shape_of byte ≡ Sized kind.Float w extra → 1 ≤ 0
unfolding shape_of
float_sized byte w extra e = grind (arith, common_steps)

-- the header of a float is one byte of the table's
pub record FloatHeader (n : ℕ) (header : List ℕ) : Type 0 where
  pub byte : ℕ
  pub one : header ≡ byte ∷ []
  pub row : shape_of byte ≡ Fixed kind.Float n

header_of : (n byte : ℕ) (rest : List ℕ) (s : Shape) → shape_of byte ≡ s → Sizes s kind.Float n rest → FloatHeader n (byte ∷ rest)
header_of n byte rest (Fixed k m) e z =
    record { byte = byte; one = ap (λ (l : List ℕ). byte ∷ l) z.1; row = e ∙ ap (λ (x : Kind). Fixed x m) z.0 ∙ ap (λ (x : ℕ). Fixed kind.Float x) (sym z.2) }
header_of n byte rest (Sized k w extra) e z = absurd (let f = float_sized byte w extra (e ∙ ap (λ (x : Kind). Sized x w extra) z.0) in omega arith)
header_of n byte rest (Holds c m) e z = absurd z
header_of n byte rest (Counted c w) e z = absurd z
header_of n byte rest Never e z = absurd z

float_header : (n : ℕ) (header : List ℕ) → IsScalarHeader kind.Float n header → FloatHeader n header
float_header n [] z = absurd z
float_header n (byte ∷ rest) z = header_of n byte rest (shape_of byte) refl (scalar_sizes kind.Float n byte rest z)

-- a float is a byte, and its content
pub record Float (item content : List ℕ) : Type 0 where
  pub byte : ℕ
  pub whole : item ≡ byte ∷ content
  pub four : length content ≡ 4 → byte ≡ 0xca
  pub other : (length content ≡ 4 → ⊥) → byte ≡ 0xcb
  pub eight : (length content ≡ 4 → ⊥) → length content ≡ 8

pub float_parts : (item content : List ℕ) → Spells kind.Float item content → Float item content
float_parts item content s =
    let h = float_header (length content) s.header s.sized in
    record {
      byte = h.byte;
      whole = s.whole ∙ ap (λ (z : List ℕ). z ++ content) h.one;
      four = float_four h.byte (length content) h.row;
      other = float_other h.byte (length content) h.row;
      eight = float_eight h.byte (length content) h.row;
    }
