-- Numbers and an Append's fields at the front of bytes: what is read was written so, and what was
-- written is read again.
use Rattle.std.proofs.Common.{◌≡◌, ℕ, ◌+◌, ◌^◌, ◌<◌, ◌≤◌, Bool, true, false, cond, ltb, ◌||◌, List, ◌++◌, length, get_or, take, drop, Option, Some, None, refl, sym, ap, subst, ◌∙◌, arith, inl, inr}
use Rattle.std.specs.Option.{option_and_then}
use Rattle.std.specs.Int.{Width, w16, w32, w64, byte_len, from_be_bytes, to_be_bytes}
use Rattle.std.proofs.lemmas.Bool.{cases_lt, ltb-false, le-ltb}
use Rattle.std.proofs.lemmas.List.{take_at, drop_at, take-append-drop, length-append, length-take, get_or-drop, get_or-take, get_or_past}
use Rattle.std.proofs.lemmas.Nat.{be_bytes_2, be_bytes_4, be_bytes_8, from_be_bytes-to_be_bytes_2, from_be_bytes-to_be_bytes_4, from_be_bytes-to_be_bytes_8}
use Rattle.event_modes.specs.Message.{longest_tag}
use Rattle.chunk_journal.specs.Fields.{Fields, number_at, tag_at, parts_from}

-- each is one byte
abbrev pub AreBytes : List ℕ → Type 0
AreBytes bytes = (i : ℕ) → get_or bytes i 0 < 256

pub bytes_behind : (n : ℕ) (bytes : List ℕ) → AreBytes bytes → AreBytes (drop n bytes)
bytes_behind n bytes h i = rw get_or-drop (h (n + i))

pub bytes_before : (n : ℕ) (bytes : List ℕ) → AreBytes bytes → AreBytes (take n bytes)
bytes_before n bytes h i =
    elim (cases_lt i n) [
      | inl lt ↦ rw (get_or-take n bytes i 0 lt) (h i)
      | inr le ↦ rw (get_or_past (take n bytes) i 0 (omega (arith, length-take n bytes))) (omega arith)
    ]

-- numbers of this width are spelled one to one
pub record IsWide (w : Width) (limit : ℕ) : Type 0 where
  pub len : (n : ℕ) → length (to_be_bytes w n) ≡ byte_len w
  pub back : (bytes : List ℕ) → length bytes ≡ byte_len w → AreBytes bytes → to_be_bytes w (from_be_bytes w bytes) ≡ bytes
  pub again : (n : ℕ) → n < limit → from_be_bytes w (to_be_bytes w n) ≡ n
  pub below : (bytes : List ℕ) → AreBytes bytes → from_be_bytes w bytes < limit

pub wide16 : IsWide w16 (2 ^ 16)
wide16 = record {
  len = λ n. refl;
  back = λ bytes len fits. be_bytes_2 bytes _ len fits refl;
  again = λ n lt. from_be_bytes-to_be_bytes_2 n lt;
  below = λ bytes fits. omega (arith, fits 0, fits 1);
}

pub wide32 : IsWide w32 (2 ^ 32)
wide32 = record {
  len = λ n. refl;
  back = λ bytes len fits. be_bytes_4 bytes _ len fits refl;
  again = λ n lt. from_be_bytes-to_be_bytes_4 n lt;
  below = λ bytes fits. omega (arith, fits 0, fits 1, fits 2, fits 3);
}

pub wide64 : IsWide w64 (2 ^ 64)
wide64 = record {
  len = λ n. refl;
  back = λ bytes len fits. be_bytes_8 bytes _ len fits refl;
  again = λ n lt. from_be_bytes-to_be_bytes_8 n lt;
  below = λ bytes fits. omega (arith, fits 0, fits 1, fits 2, fits 3, fits 4, fits 5, fits 6, fits 7);
}

-- two numbers with one spelling are one
pub same_number : (w : Width) (limit : ℕ) (wide : IsWide w limit) (n m : ℕ) → n < limit → m < limit → to_be_bytes w n ≡ to_be_bytes w m → n ≡ m
same_number w limit wide n m p q e = sym (wide.again n p) ∙ ap (from_be_bytes w) e ∙ wide.again m q

-- what was taken off the front: its bytes, and the rest
pub record Takes (bytes front rest : List ℕ) : Type 0 where
  pub parts : bytes ≡ front ++ rest
  pub fits : AreBytes rest

-- a test that was passed
pub passed : {A : Type 0} (b : Bool) (x y : A) → cond b None (Some x) ≡ Some y → (b ≡ false) × (x ≡ y)
passed true x y e = absurd cc
passed false x y e = (refl, cc)

pub number_parts : (w : Width) (limit : ℕ) (wide : IsWide w limit) (bytes : List ℕ) (n : ℕ) (rest : List ℕ) → AreBytes bytes → number_at w bytes ≡ Some (n, rest) → Takes bytes (to_be_bytes w n) rest × (n < limit)
number_parts w limit wide bytes n rest fits e =
    let g = passed (ltb (length bytes) (byte_len w)) (from_be_bytes w (take (byte_len w) bytes), drop (byte_len w) bytes) (n, rest) e in
    let long : byte_len w ≤ length bytes = ltb-false _ _ g.0 in
    let n-is : from_be_bytes w (take (byte_len w) bytes) ≡ n = ap (λ (p : ℕ × List ℕ). p.0) g.1 in
    let rest-is : drop (byte_len w) bytes ≡ rest = ap (λ (p : ℕ × List ℕ). p.1) g.1 in
    let front : to_be_bytes w n ≡ take (byte_len w) bytes = rw (← n-is) (wide.back (take (byte_len w) bytes) (omega (arith, length-take (byte_len w) bytes)) (bytes_before (byte_len w) bytes fits)) in (
      record { parts = rw (front, ← rest-is) (sym (take-append-drop (byte_len w) bytes)); fits = rw (← rest-is) (bytes_behind (byte_len w) bytes fits) },
      rw (← n-is) (wide.below (take (byte_len w) bytes) (bytes_before (byte_len w) bytes fits)),
    )

pub number_again : (w : Width) (limit : ℕ) (wide : IsWide w limit) (n : ℕ) (rest : List ℕ) → n < limit → number_at w (to_be_bytes w n ++ rest) ≡ Some (n, rest)
number_again w limit wide n rest lt =
    let len = wide.len n in
    let long : ltb (length (to_be_bytes w n ++ rest)) (byte_len w) ≡ false = le-ltb _ _ (omega (arith, length-append (to_be_bytes w n) rest)) in
    rw (long, take_at (to_be_bytes w n) rest (byte_len w) len, drop_at (to_be_bytes w n) rest (byte_len w) len, wide.again n lt) refl

tag_parts : (n : ℕ) (bytes tag rest : List ℕ) → AreBytes bytes → tag_at n bytes ≡ Some (tag, rest) → Takes bytes tag rest × (length tag ≡ n) × (n ≤ longest_tag)
tag_parts n bytes tag rest fits e =
    let g = passed (ltb longest_tag n || ltb (length bytes) n) (take n bytes, drop n bytes) (tag, rest) e in
    let t = both_false (ltb longest_tag n) (ltb (length bytes) n) g.0 in
    let short : n ≤ longest_tag = ltb-false _ _ t.0 in
    let long : n ≤ length bytes = ltb-false _ _ t.1 in
    let tag-is : take n bytes ≡ tag = ap (λ (p : List ℕ × List ℕ). p.0) g.1 in
    let rest-is : drop n bytes ≡ rest = ap (λ (p : List ℕ × List ℕ). p.1) g.1 in (
      record { parts = rw (← tag-is, ← rest-is) (sym (take-append-drop n bytes)); fits = rw (← rest-is) (bytes_behind n bytes fits) },
      rw (← tag-is) (omega (arith, length-take n bytes)),
      short,
    )
  where
    both_false : (a b : Bool) → (a || b) ≡ false → (a ≡ false) × (b ≡ false)
    both_false true b e = absurd cc
    both_false false b e = (refl, e)

tag_again : (tag rest : List ℕ) → length tag ≤ longest_tag → tag_at (length tag) (tag ++ rest) ≡ Some (tag, rest)
tag_again tag rest le =
    let short : ltb longest_tag (length tag) ≡ false = le-ltb _ _ le in
    let long : ltb (length (tag ++ rest)) (length tag) ≡ false = le-ltb _ _ (omega (arith, length-append tag rest)) in
    rw (short, long, take_at tag rest (length tag) refl, drop_at tag rest (length tag) refl) refl

-- ---- an Append's fields

-- the bytes of fields
abbrev pub fields_bytes : ℕ → List ℕ → ℕ → List ℕ → List ℕ
fields_bytes serial tag count stored = to_be_bytes w64 serial ++ (to_be_bytes w16 (length tag) ++ (tag ++ (to_be_bytes w32 count ++ stored)))

-- the bytes are these fields
pub record AreFields (bytes : List ℕ) (f : Fields) : Type 0 where
  pub serial : f.serial < 2 ^ 64
  pub tag : length f.tag ≤ longest_tag
  pub count : f.count < 2 ^ 32
  pub whole : bytes ≡ fields_bytes f.serial f.tag f.count f.stored

pub then_some : {A B : Type 0} (r : Option A) (f : A → Option B) (y : B) → option_and_then f r ≡ Some y → (x : A) × (r ≡ Some x) × (f x ≡ Some y)
then_some (Some x) f y e = (x, refl, e)
then_some None f y e = absurd cc

pub is_some : {A : Type 0} (x y : A) → Some x ≡ Some y → x ≡ y
is_some x y e = cc

joined : (bytes a x b b' y t z c w : List ℕ) → bytes ≡ a ++ x → x ≡ b ++ y → y ≡ t ++ z → z ≡ c ++ w → b ≡ b' → bytes ≡ a ++ (b' ++ (t ++ (c ++ w)))
joined bytes a x b b' y t z c w p q r s e = rw (p, q, r, s, e) refl

together : (bytes : List ℕ) (serial : ℕ) (x : List ℕ) (n : ℕ) (y tag z : List ℕ) (count : ℕ) (stored : List ℕ)
    → Takes bytes (to_be_bytes w64 serial) x × (serial < 2 ^ 64) → Takes x (to_be_bytes w16 n) y × (n < 2 ^ 16)
    → Takes y tag z × (length tag ≡ n) × (n ≤ longest_tag) → Takes z (to_be_bytes w32 count) stored × (count < 2 ^ 32)
    → AreFields bytes (record { serial = serial; tag = tag; count = count; stored = stored })
together bytes serial x n y tag z count stored s m t c = record {
  serial = s.1;
  tag = omega (arith, t.1, t.2);
  count = c.1;
  whole = joined bytes (to_be_bytes w64 serial) x (to_be_bytes w16 n) (to_be_bytes w16 (length tag)) y tag z (to_be_bytes w32 count) stored
      s.0.parts m.0.parts t.0.parts c.0.parts (ap (to_be_bytes w16) (sym t.1));
}

from_count : (bytes : List ℕ) (f : Fields) (serial : ℕ) (x : List ℕ) (n : ℕ) (y tag z : List ℕ)
    → Takes bytes (to_be_bytes w64 serial) x × (serial < 2 ^ 64) → Takes x (to_be_bytes w16 n) y × (n < 2 ^ 16)
    → Takes y tag z × (length tag ≡ n) × (n ≤ longest_tag)
    → option_and_then (λ count. Some (record { serial = serial; tag = tag; count = count.0; stored = count.1 })) (number_at w32 z) ≡ Some f → AreFields bytes f
from_count bytes f serial x n y tag z s m t e =
    let k = then_some (number_at w32 z) (λ count. Some (record { serial = serial; tag = tag; count = count.0; stored = count.1 })) f e in
    subst (AreFields bytes) (is_some _ f k.2)
    (together bytes serial x n y tag z k.0.0 k.0.1 s m t (number_parts w32 (2 ^ 32) wide32 z k.0.0 k.0.1 t.0.fits k.1))

pub fields_parts : (bytes : List ℕ) (f : Fields) → AreBytes bytes → parts_from bytes ≡ Some f → AreFields bytes f
unfolding parts_from
fields_parts bytes f fits e =
    let a = then_some (number_at w64 bytes) _ f e in
    let s = number_parts w64 (2 ^ 64) wide64 bytes a.0.0 a.0.1 fits a.1 in
    let b = then_some (number_at w16 a.0.1) _ f a.2 in
    let n = number_parts w16 (2 ^ 16) wide16 a.0.1 b.0.0 b.0.1 s.0.fits b.1 in
    let d = then_some (tag_at b.0.0 b.0.1) _ f b.2 in
    from_count bytes f a.0.0 a.0.1 b.0.0 b.0.1 d.0.0 d.0.1 s n (tag_parts b.0.0 b.0.1 d.0.0 d.0.1 n.0.fits d.1) d.2

pub fields_again : (serial : ℕ) (tag : List ℕ) (count : ℕ) (stored : List ℕ) → serial < 2 ^ 64 → length tag ≤ longest_tag → count < 2 ^ 32
    → parts_from (fields_bytes serial tag count stored) ≡ Some (record { serial = serial; tag = tag; count = count; stored = stored })
unfolding parts_from
fields_again serial tag count stored p q r =
    rw (
      number_again w64 (2 ^ 64) wide64 serial (to_be_bytes w16 (length tag) ++ (tag ++ (to_be_bytes w32 count ++ stored))) p,
      number_again w16 (2 ^ 16) wide16 (length tag) (tag ++ (to_be_bytes w32 count ++ stored)) (omega arith),
      tag_again tag (to_be_bytes w32 count ++ stored) q,
      number_again w32 (2 ^ 32) wide32 count stored r,
    ) refl
