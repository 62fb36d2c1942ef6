-- Every integer of MessagePack is an i64 or a u64.
use Rattle.std.proofs.Common.{ℕ, zero, suc, ℤ, pos, ◌-ℤ◌, ◌*ℤ◌, ◌≤ℤ◌, neg_ℤ, ◌≡◌, ◌*◌, ◌^◌, ◌<◌, ◌≤◌, Bool, true, false, List, [], ◌∷◌, ◌++◌, length, slice_index_or, FitsSigned, Fits, w8, w64, to_z, of_z, nat_lt, refl, ap, sym, subst, ◌∙◌, arith}
use Rattle.std.specs.Prelude.{if◌then◌else◌}
use Rattle.std.specs.Int.{w128, FitsUnsigned}
use Rattle.std.proofs.lemmas.Int.{to_z-of_z}
use Rattle.jiff_core.proofs.SignedLemmas.{signed_arith}
use Rattle.msgpack_bytes.specs.declared.format.Kind.{Kind}
use Rattle.msgpack_bytes.specs.declared.format.Kind.TheVariants as kind
use Rattle.msgpack_bytes.specs.declared.format.Shape.{Shape}
use Rattle.msgpack_bytes.specs.declared.format.Shape.TheVariants.{Fixed, Sized, Holds, Counted, Never}
use Rattle.msgpack_bytes.specs.Format.{shape_of, big_endian}
use Rattle.msgpack_bytes.specs.Sizes.{Sizes}
use Rattle.msgpack_bytes.specs.Item.{IsScalarHeader, Spells}
use Rattle.msgpack_bytes.specs.Kinds.{IsInteger, Positive, Negative, Unsigned, Signed}
use Rattle.msgpack_bytes.specs.Spelling.{IsBytes}
use Rattle.msgpack_bytes.proofs.Headers.{scalar_sizes}
use Rattle.msgpack_bytes.proofs.Numbers.{span_small}
use Rattle.msgpack_bytes.proofs.Rows.{fixed_unsigned, sized_unsigned, fixed_signed, sized_signed}
use Rattle.msgpack_bytes.proofs.Slices.{less, not_less, less_true}
use Rattle.msgpack_bytes.proofs.Values.{bytes_behind, value_small}

pow_most : (k : ℕ) → k ≤ 8 → 256 ^ k ≤ 18446744073709551616
pow_most zero h = omega arith
pow_most (suc zero) h = omega arith
pow_most (suc (suc zero)) h = omega arith
pow_most (suc (suc (suc zero))) h = omega arith
pow_most (suc (suc (suc (suc zero)))) h = omega arith
pow_most (suc (suc (suc (suc (suc zero))))) h = omega arith
pow_most (suc (suc (suc (suc (suc (suc zero)))))) h = omega arith
pow_most (suc (suc (suc (suc (suc (suc (suc zero))))))) h = omega arith
pow_most (suc (suc (suc (suc (suc (suc (suc (suc zero)))))))) h = omega arith
pow_most (suc (suc (suc (suc (suc (suc (suc (suc (suc k))))))))) h = absurd (omega arith)

most_by : (k : Kind) (byte n : ℕ) (rest : List ℕ) (s : Shape) → ((n : ℕ) → shape_of byte ≡ Fixed k n → n ≤ 8) → ((w extra : ℕ) → shape_of byte ≡ Sized k w extra → 1 ≤ 0)
    → shape_of byte ≡ s → Sizes s k n rest → n ≤ 8
most_by k byte n rest (Fixed j m) fixed sized e z = fixed n (e ∙ ap (λ (x : Kind). Fixed x m) z.0 ∙ ap (λ (x : ℕ). Fixed k x) (sym z.2))
most_by k byte n rest (Sized j w extra) fixed sized e z = let f = sized w extra (e ∙ ap (λ (x : Kind). Sized x w extra) z.0) in omega arith
most_by k byte n rest (Holds c m) fixed sized e z = absurd z
most_by k byte n rest (Counted c w) fixed sized e z = absurd z
most_by k byte n rest Never fixed sized e z = absurd z

unsigned_most : (n : ℕ) (h : List ℕ) → IsScalarHeader kind.Unsigned n h → n ≤ 8
unsigned_most n [] z = absurd z
unsigned_most n (byte ∷ rest) z = most_by kind.Unsigned byte n rest (shape_of byte) (λ m e. (fixed_unsigned byte m e).1) (λ w x e. sized_unsigned byte w x e) refl (scalar_sizes kind.Unsigned n byte rest z)

signed_most : (n : ℕ) (h : List ℕ) → IsScalarHeader kind.Signed n h → n ≤ 8
signed_most n [] z = absurd z
signed_most n (byte ∷ rest) z = most_by kind.Signed byte n rest (shape_of byte) (λ m e. (fixed_signed byte m e).1) (λ w x e. sized_signed byte w x e) refl (scalar_sizes kind.Signed n byte rest z)

bytes_after : (h content : List ℕ) → IsBytes (h ++ content) → IsBytes content
bytes_after [] content b = b
bytes_after (x ∷ h) content b = bytes_after h content (bytes_behind x (h ++ content) b)

content_small : (item h content : List ℕ) → IsBytes item → item ≡ h ++ content → length content ≤ 8 → big_endian content < 18446744073709551616
content_small item h content b e l =
    let s = value_small content (bytes_after h content (subst IsBytes e b)) in
    let p = pow_most (length content) l in
    omega arith

-- an integer that is neither
abbrev Neither : ℤ → Type 0
Neither v = (FitsSigned w64 v → ⊥) × (FitsUnsigned w64 v → ⊥)

above : (v : ℤ) (n : ℕ) → n < 18446744073709551616 → v ≡ pos n → Neither v → ⊥
above v n h e f = f.1 (omega (arith, signed_arith), omega (arith, signed_arith))

below : (v : ℤ) (n p : ℕ) (b : Bool) → nat_lt n p ≡ b → p ≤ 18446744073709551616 → n < 18446744073709551616 → p ≤ 2 * n → v ≡ pos n -ℤ pos p → Neither v → ⊥
below v n p true e l m h w f = let k = less n p e in f.0 (omega (arith, signed_arith))
below v n p false e l m h w f = let k = not_less n p e in f.1 (omega (arith, signed_arith), omega (arith, signed_arith))

two : (v : ℤ) (n p : ℕ) (b : Bool) → nat_lt (2 * n) p ≡ b → p ≤ 18446744073709551616 → n < 18446744073709551616 → v ≡ (if b then pos n else pos n -ℤ pos p) → Neither v → ⊥
two v n p true e l m w f = above v n m w f
two v n p false e l m w f = below v n p (nat_lt n p) refl l m (not_less (2 * n) p e) w f

pub integer_fits : (item : List ℕ) (v : ℤ) → ((i : ℕ) → Fits w8 (slice_index_or item i 0)) → IsInteger item v → Neither v → ⊥
integer_fits item v b (Positive byte lt e m) f = above v byte (omega arith) m f
integer_fits item v b (Negative byte le e m) f =
    let k : byte < 256 = subst (λ (z : List ℕ). slice_index_or z 0 0 < 256) e (b 0).fits in
    below v byte 256 true (less_true byte 256 k) (omega arith) (omega arith) (omega arith) m f
integer_fits item v b (Unsigned content s m) f =
    above v (big_endian content) (content_small item s.header content (λ i. (b i).fits) s.whole (unsigned_most (length content) s.header s.sized)) m f
integer_fits item v b (Signed content s m) f =
    let l = signed_most (length content) s.header s.sized in
    two v (big_endian content) (2 ^ (8 * length content)) (nat_lt (2 * big_endian content) (2 ^ (8 * length content))) refl (span_small (length content) l)
    (content_small item s.header content (λ i. (b i).fits) s.whole l) m f

-- an integer that 65 bits hold
pub record IsShort (v : ℤ) : Type 0 where
  pub least : neg_ℤ (pos 18446744073709551616) ≤ℤ v
  pub most : v ≤ℤ pos 18446744073709551616

short_of : (v : ℤ) (n p : ℕ) → n < 18446744073709551616 → p ≤ 18446744073709551616 → v ≡ pos n -ℤ pos p → IsShort v
short_of v n p h k e = record { least = omega (arith, signed_arith); most = omega (arith, signed_arith) }

short_two : (v : ℤ) (n p : ℕ) (b : Bool) → n < 18446744073709551616 → p ≤ 18446744073709551616 → v ≡ (if b then pos n else pos n -ℤ pos p) → IsShort v
short_two v n p true h k e = record { least = omega (arith, signed_arith); most = omega (arith, signed_arith) }
short_two v n p false h k e = short_of v n p h k e

-- every integer of MessagePack is one
pub integer_short : (item : List ℕ) (v : ℤ) → ((i : ℕ) → Fits w8 (slice_index_or item i 0)) → IsInteger item v → IsShort v
integer_short item v b (Positive byte lt e m) = record { least = omega (arith, signed_arith); most = omega (arith, signed_arith) }
integer_short item v b (Negative byte le e m) =
    let k : byte < 256 = subst (λ (z : List ℕ). slice_index_or z 0 0 < 256) e (b 0).fits in
    short_of v byte 256 (omega arith) (omega arith) m
integer_short item v b (Unsigned content s m) =
    let k = content_small item s.header content (λ i. (b i).fits) s.whole (unsigned_most (length content) s.header s.sized) in
    record { least = omega (arith, signed_arith); most = omega (arith, signed_arith) }
integer_short item v b (Signed content s m) =
    let l = signed_most (length content) s.header s.sized in
    short_two v (big_endian content) (2 ^ (8 * length content)) (nat_lt (2 * big_endian content) (2 ^ (8 * length content)))
    (content_small item s.header content (λ i. (b i).fits) s.whole l) (span_small (length content) l) m

-- so it is kept as an i128
pub int_same : (item : List ℕ) (v : ℤ) → ((i : ℕ) → Fits w8 (slice_index_or item i 0)) → IsInteger item v → to_z w128 (of_z w128 v) ≡ v
int_same item v b is =
    let s = integer_short item v b is in
    let fits : FitsSigned w128 v = omega (arith, signed_arith, s.least, s.most) in
    to_z-of_z w128 v fits

pub int_kept : (item : List ℕ) (v : ℤ) → ((i : ℕ) → Fits w8 (slice_index_or item i 0)) → IsInteger item v → IsInteger item (to_z w128 (of_z w128 v))
int_kept item v b is = subst (IsInteger item) (sym (int_same item v b is)) is

-- and its nanoseconds are
pub nanos_fit : (item : List ℕ) (v : ℤ) → ((i : ℕ) → Fits w8 (slice_index_or item i 0)) → IsInteger item v → FitsSigned w128 (v *ℤ pos 1000000000)
nanos_fit item v b is =
    let s = integer_short item v b is in
    omega (arith, signed_arith, s.least, s.most)
