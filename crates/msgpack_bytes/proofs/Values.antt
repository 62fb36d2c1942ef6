-- Numbers that are written and read again.
use Rattle.std.proofs.Common.{ℕ, zero, suc, ◌≡◌, ◌^◌, ◌<◌, List, [], ◌∷◌, ◌++◌, length, arith}
use Rattle.std.proofs.lemmas.Nat.{from_be_bytes-to_be_bytes_2, from_be_bytes-to_be_bytes_4, from_be_bytes-to_be_bytes_8}
use Rattle.std.specs.Int.{bytes_high_first}
use Rattle.msgpack_bytes.specs.Format.{big_endian}
use Rattle.msgpack_bytes.specs.Spelling.{IsBytes}
use Rattle.msgpack_bytes.proofs.Numbers.{number_all, number_small}

pub value_one : (n : ℕ) → n < 2 ^ 8 → big_endian (bytes_high_first 1 n) ≡ n
value_one n h = omega arith

pub value_two : (n : ℕ) → n < 2 ^ 16 → big_endian (bytes_high_first 2 n) ≡ n
value_two n h = let e = from_be_bytes-to_be_bytes_2 n h in omega arith

pub value_four : (n : ℕ) → n < 2 ^ 32 → big_endian (bytes_high_first 4 n) ≡ n
value_four n h = let e = from_be_bytes-to_be_bytes_4 n h in omega arith

pub value_eight : (n : ℕ) → n < 2 ^ 64 → big_endian (bytes_high_first 8 n) ≡ n
value_eight n h = let e = from_be_bytes-to_be_bytes_8 n h in omega arith

pub bytes_front : (front back : List ℕ) → IsBytes (front ++ back) → IsBytes front
bytes_front [] back h i = omega arith
bytes_front (x ∷ front) back h zero = h 0
bytes_front (x ∷ front) back h (suc i) = bytes_front front back (λ j. h (suc j)) i

pub bytes_behind : (byte : ℕ) (bytes : List ℕ) → IsBytes (byte ∷ bytes) → IsBytes bytes
bytes_behind byte bytes h i = h (suc i)

-- a number of so many bytes is below the power that they give
pub value_small : (bytes : List ℕ) → IsBytes bytes → big_endian bytes < 256 ^ length bytes
value_small bytes h = let s = number_small (length bytes) bytes h in let e = number_all bytes in omega arith
