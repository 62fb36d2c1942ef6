-- Numbers in bytes.
use Rattle.std.proofs.Common.{ℕ, zero, suc, ◌≡◌, ◌+◌, ◌*◌, ◌^◌, ◌<◌, ◌≤◌, List, [], ◌∷◌, length, drop, slice_index, refl, ap, arith, add-one}
use Rattle.std.proofs.Math.Nat.{pow-suc}
use Rattle.std.proofs.lemmas.List.{get_or-drop}
use Rattle.msgpack_bytes.specs.Format.{big_endian}
use Rattle.msgpack_bytes.specs.Run.{number}

-- a number of all the bytes there are
pub number_all : (bytes : List ℕ) → number (length bytes) bytes ≡ big_endian bytes
number_all [] = refl
number_all (byte ∷ bytes) = ap (λ (n : ℕ). byte * 256 ^ length bytes + n) (number_all bytes)

-- one byte more
pub number_suc : (k : ℕ) (bytes : List ℕ) → number (suc k) bytes ≡ number k bytes * 256 + slice_index bytes k
number_suc zero [] = refl
number_suc (suc k) [] = refl
number_suc zero (byte ∷ bytes) = omega arith
number_suc (suc k) (byte ∷ bytes) = rw (pow-suc 256 k, number_suc k bytes) (omega arith)

pub number_next : (k at : ℕ) (bytes : List ℕ) → number (k + 1) (drop at bytes) ≡ number k (drop at bytes) * 256 + slice_index bytes (at + k)
number_next k at bytes = rw (add-one, ← get_or-drop at bytes k 0) (number_suc k (drop at bytes))

-- a number of bytes is below the power that its width gives
pub number_small : (k : ℕ) (bytes : List ℕ) → ((i : ℕ) → slice_index bytes i < 256) → number k bytes < 256 ^ k
number_small zero bytes small = omega arith
number_small (suc k) bytes small =
    let here = small k in
    let front = number_small k bytes small in
    rw (number_suc k bytes, pow-suc 256 k) (omega arith)

pub pow_four : (k : ℕ) → k < 4 → 256 ^ k ≤ 16777216
pow_four zero h = omega arith
pow_four (suc zero) h = omega arith
pow_four (suc (suc zero)) h = omega arith
pow_four (suc (suc (suc zero))) h = omega arith
pow_four (suc (suc (suc (suc k)))) h = absurd (omega arith)

pub pow_eight : (k : ℕ) → k < 8 → 256 ^ k ≤ 72057594037927936
pow_eight zero h = omega arith
pow_eight (suc zero) h = omega arith
pow_eight (suc (suc zero)) h = omega arith
pow_eight (suc (suc (suc zero))) h = omega arith
pow_eight (suc (suc (suc (suc zero)))) h = omega arith
pow_eight (suc (suc (suc (suc (suc zero))))) h = omega arith
pow_eight (suc (suc (suc (suc (suc (suc zero)))))) h = omega arith
pow_eight (suc (suc (suc (suc (suc (suc (suc zero))))))) h = omega arith
pow_eight (suc (suc (suc (suc (suc (suc (suc (suc k)))))))) h = absurd (omega arith)

pub pow_grows : (k : ℕ) → 256 ^ (k + 1) ≡ 256 ^ k * 256
pow_grows k = rw add-one (pow-suc 256 k)

-- the numbers of n bytes, of which there are at most eight
pub span_small : (n : ℕ) → n ≤ 8 → 2 ^ (8 * n) ≤ 18446744073709551616
span_small zero h = omega arith
span_small (suc zero) h = omega arith
span_small (suc (suc zero)) h = omega arith
span_small (suc (suc (suc zero))) h = omega arith
span_small (suc (suc (suc (suc zero)))) h = omega arith
span_small (suc (suc (suc (suc (suc zero))))) h = omega arith
span_small (suc (suc (suc (suc (suc (suc zero)))))) h = omega arith
span_small (suc (suc (suc (suc (suc (suc (suc zero))))))) h = omega arith
span_small (suc (suc (suc (suc (suc (suc (suc (suc zero)))))))) h = omega arith
span_small (suc (suc (suc (suc (suc (suc (suc (suc (suc n))))))))) h = absurd (omega arith)
