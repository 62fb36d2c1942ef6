-- Where there is no room for a part, there is none for the whole.
use Rattle.std.proofs.Common.{ℕ, ◌≡◌, ◌+◌, ◌<◌, ◌≤◌, List, ◌++◌, length, ap, arith, Result, Ok, Err, OnErr}
use Rattle.std.proofs.lemmas.List.{length-append}

pub no_room_at_first : (front rest : List ℕ) (capacity len : ℕ) → capacity < len + length front → capacity < len + length (front ++ rest)
no_room_at_first front rest capacity len full = omega (arith, length-append front rest)

pub no_room_behind : (old now front rest : List ℕ) (capacity len room width : ℕ) → len ≡ length old → width ≡ length now → now ≡ old ++ front → capacity ≤ room → room < width + length rest → capacity < len + length (front ++ rest)
no_room_behind old now front rest capacity len room width l w e k full = omega (arith, ap length e, length-append old front, length-append front rest)

pub any_err : {P X E : Type 0} (r : Result X E) → P → OnErr r P
any_err (Ok x) p = tt
any_err (Err e) p = p
