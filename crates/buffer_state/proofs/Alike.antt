-- How many entries there are, and how many bytes they have.
use Rattle.std.proofs.Common.{◌≡◌, ℕ, ◌+◌, ◌≤◌, List, [], ◌∷◌, ◌++◌, length, length-append, ap, arith}
use Rattle.std.specs.List.{AllByRecursion, concat}
use Rattle.event_modes.specs.Rows.{IsStored}
use Rattle.event_modes.proofs.Stored.{no_longer}
use Rattle.buffer_state.specs.Slots.{AreKept}
use Rattle.buffer_state.proofs.Tables.{size_append}

-- there are no more entries than bytes
pub few : (entries : List (List ℕ)) (bytes : List ℕ) → AllByRecursion IsStored entries → bytes ≡ concat entries → length entries ≤ length bytes
few entries bytes each whole = (let p = no_longer entries each in let e = ap length whole in omega (arith, p, e))

all_append : (P : List ℕ → Type 0) (xs ys : List (List ℕ)) → AllByRecursion P xs → AllByRecursion P ys → AllByRecursion P (xs ++ ys)
all_append P [] ys p q = q
all_append P (x ∷ xs) ys p q = (p.0, all_append P xs ys p.1 q)

-- entries behind others
pub kept_more : (count bytes n m : ℕ) (old more : List (List ℕ)) → AreKept count bytes old → AreKept n m more → AreKept (count + n) (bytes + m) (old ++ more)
kept_more count bytes n m old more a b = record {
  counted = (let x = a.counted in let y = b.counted in omega (arith, x, y, length-append old more));
  sized = (let x = a.sized in let y = b.sized in omega (arith, x, y, size_append old more));
  each = all_append IsStored old more a.each b.each;
}
