-- How long the texts that are written are.
use Rattle.std.proofs.Common.{ℕ, ◌≡◌, ◌+◌, ◌<◌, ◌≤◌, List, length, arith, inl, inr}
use Rattle.std.proofs.lemmas.Bool.{lt-ltb, le-ltb, cases_lt}
use Rattle.std.proofs.lemmas.List.{length-append}
use Rattle.msgpack_bytes.specs.Spelling.{str_header_of, str_of, bin_of}

str_header_length : (n : ℕ) → n < 65536 → length (str_header_of n) ≤ 3
str_header_length n h = elim (cases_lt n 32) [
  | inl short ↦ rw (lt-ltb n 32 short) (omega arith)
  | inr long ↦ elim (cases_lt n 256) [
    | inl one ↦ rw (le-ltb n 32 long, lt-ltb n 256 one) (omega arith)
    | inr more ↦ rw (le-ltb n 32 long, le-ltb n 256 more, lt-ltb n 65536 h) (omega arith)
  ]
]

pub str_length : (content : List ℕ) → length content < 65536 → length (str_of content) ≤ 3 + length content
str_length content h = omega (arith, length-append (str_header_of (length content)) content, str_header_length (length content) h)

pub bin_length : (content : List ℕ) → length content < 256 → length (bin_of content) ≡ 2 + length content
bin_length content h = rw (lt-ltb (length content) 256 h) (omega arith)
