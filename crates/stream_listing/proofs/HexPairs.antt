-- Hex text decodes by pairs of digits, wherever they stand.
use Rattle.std.proofs.Common.{◌≡◌, ℕ, ◌+◌, ◌*◌, ◌%◌, List, [], ◌∷◌, ◌++◌, length, take, IsErr, Option, Some, None, Result, Ok, Err, refl, sym, ap, ◌∙◌, subst, arith}
use Rattle.std.specs.Result.{result_unwrap_or}
use Rattle.hex.specs.Hex.{decode_of, decode_pairs, pair_value, hex_digit_value, digit_or_error, ◌>>=◌}
use Rattle.hex.specs.declared.error.FromHexError.{FromHexError}
use Rattle.hex.proofs.HexLemmas.{decode_of-even, decode_of-ok}
use Rattle.hex.proofs.Pairs.{cons_byte, decode_pairs-ok_pair}

-- the digits spell the bytes: two digits, of either case, for each
abbrev pub AreDigitsOf : List ℕ → List ℕ → Type 0
AreDigitsOf [] [] = Unit {0}
AreDigitsOf (high ∷ low ∷ digits) (byte ∷ bytes) = (decode_of (high ∷ low ∷ []) ≡ Ok (byte ∷ []))
    × AreDigitsOf digits bytes
AreDigitsOf _ _ = ⊥

-- what an `Ok` after `>>=` shows
bind_ok : {A B : Type 0} (r : Result A FromHexError) (f : A → Result B FromHexError) (y : B)
    → (r >>= f) ≡ Ok y → (x : A) × (r ≡ Ok x) × (f x ≡ Ok y)
bind_ok (Ok x) f y h = (x, refl, h)
bind_ok (Err e) f y h = cc h

-- the bytes of a result, or none
abbrev bytes_in : Result (List ℕ) FromHexError → List ℕ
bytes_in r = result_unwrap_or r []

-- the byte of two digits with these values, the first of them at index i
abbrev valued : ℕ → ℕ → ℕ → Option ℕ → Option ℕ → Result ℕ FromHexError
valued high low i h l = digit_or_error high i h >>= (λ (x : ℕ). digit_or_error low (i + 1) l >>= (λ (y : ℕ). Ok (x * 16 + y)))

-- it is the same wherever they stand
valued_at : (high low i j v : ℕ) (h l : Option ℕ) → valued high low i h l ≡ Ok v → valued high low j h l ≡ Ok v
valued_at high low i j v (Some x) (Some y) e = e
valued_at high low i j v (Some x) None e = cc e
valued_at high low i j v None l e = cc e

pair_at : (high low i j v : ℕ) → pair_value high low i ≡ Ok v → pair_value high low j ≡ Ok v
pair_at high low i j v h = valued_at high low i j v (hex_digit_value high) (hex_digit_value low) h

-- two digits alone
two_decode : (high low v : ℕ) → pair_value high low 0 ≡ Ok v → decode_of (high ∷ low ∷ []) ≡ Ok (v ∷ [])
unfolding decode_pairs
two_decode high low v h = decode_of-even (high ∷ low ∷ []) refl ∙ decode_pairs-ok_pair 0 high low v [] h

two_decoded : (high low byte : ℕ) → decode_of (high ∷ low ∷ []) ≡ Ok (byte ∷ []) → pair_value high low 0 ≡ Ok byte
unfolding decode_pairs
two_decoded high low byte h =
    let p = bind_ok (pair_value high low 0) _ (byte ∷ []) (sym (decode_of-even (high ∷ low ∷ []) refl) ∙ h) in
    let all : p.0 ∷ [] ≡ byte ∷ [] = ap bytes_in p.2 in
    let e : p.0 ≡ byte = cc in
    p.1 ∙ ap Ok e

parted : (i : ℕ) (digits bytes : List ℕ) → decode_pairs i digits ≡ Ok bytes → AreDigitsOf digits bytes
unfolding decode_pairs
parted i [] bytes h = let e : [] ≡ bytes = ap bytes_in h in subst (AreDigitsOf []) e tt
parted i (d ∷ []) bytes h = cc h
parted i (high ∷ low ∷ digits) bytes h =
    let p = bind_ok (pair_value high low i) _ bytes h in
    let q = bind_ok (decode_pairs (i + 2) digits) _ bytes p.2 in
    let e : p.0 ∷ q.0 ≡ bytes = ap bytes_in q.2 in
    subst (AreDigitsOf (high ∷ low ∷ digits)) e (two_decode high low p.0 (pair_at high low i 0 p.0 p.1), parted (i + 2) digits q.0 q.1)

joined : (i : ℕ) (digits bytes : List ℕ) → AreDigitsOf digits bytes → (length digits % 2 ≡ 0) × (decode_pairs i digits ≡ Ok bytes)
unfolding decode_pairs
joined i [] [] h = (refl, refl)
joined i [] (b ∷ bytes) h = absurd h
joined i (d ∷ []) bytes h = absurd h
joined i (high ∷ low ∷ digits) [] h = absurd h
joined i (high ∷ low ∷ digits) (b ∷ bytes) h =
    let more = joined (i + 2) digits bytes h.1 in
    let even = more.0 in (
      omega (arith, even),
      decode_pairs-ok_pair i high low b digits (pair_at high low 0 i b (two_decoded high low b h.0)) ∙ ap (cons_byte b) more.1,
    )

-- what decodes is pairs of digits
pub pairs_of : (digits bytes : List ℕ) → decode_of digits ≡ Ok bytes → AreDigitsOf digits bytes
pairs_of digits bytes h = parted 0 digits bytes (sym (decode_of-even digits (decode_of-ok digits bytes h).0) ∙ h)

-- and pairs of digits decode
pub pairs_decode : (digits bytes : List ℕ) → AreDigitsOf digits bytes → decode_of digits ≡ Ok bytes
pairs_decode digits bytes h =
    let j = joined 0 digits bytes h in
    decode_of-even digits j.0 ∙ j.1

-- two texts, one after the other, spell the bytes of both
AreDigitsOf-append : (front digits before bytes : List ℕ) → AreDigitsOf front before → AreDigitsOf digits bytes
    → AreDigitsOf (front ++ digits) (before ++ bytes)
AreDigitsOf-append [] digits [] bytes h k = k
AreDigitsOf-append [] digits (b ∷ bs) bytes h k = absurd h
AreDigitsOf-append (d ∷ []) digits before bytes h k = absurd h
AreDigitsOf-append (a ∷ b ∷ front) digits [] bytes h k = absurd h
AreDigitsOf-append (a ∷ b ∷ front) digits (c ∷ before) bytes h k = (h.0, AreDigitsOf-append front digits before bytes h.1 k)

pub decode_of-append : (front digits before bytes : List ℕ) → decode_of front ≡ Ok before → decode_of digits ≡ Ok bytes
    → decode_of (front ++ digits) ≡ Ok (before ++ bytes)
decode_of-append front digits before bytes h k =
    pairs_decode (front ++ digits) (before ++ bytes) (AreDigitsOf-append front digits before bytes (pairs_of front before h) (pairs_of digits bytes k))

-- no digits are no bytes
pub decode_of-nil : decode_of [] ≡ Ok []
unfolding decode_pairs
decode_of-nil = refl

-- so where nothing is left nothing is wrong
pub none_wrong : (left : List ℕ) → left ≡ [] → IsErr (decode_of (take 2 left)) → ⊥
none_wrong left e bad =
    let nothing : IsErr (decode_of []) = subst (λ l. IsErr (decode_of (take 2 l))) e bad in
    cc (rw decode_of-nil at nothing)
