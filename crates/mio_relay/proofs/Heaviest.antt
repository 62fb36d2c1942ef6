-- How much connections hold.
use Rattle.std.proofs.Common.{ℕ, ◌≡◌, ◌∙◌, ◌+◌, ◌<◌, ◌≤◌, ◌⊎◌, inl, inr, add-one, add_comm, arith, ap, sym, subst, List, [], ◌∷◌, ◌++◌, length, take, get_or, Option}
use Rattle.std.specs.Prelude.{slice_index_or}
use Rattle.std.proofs.Math.Nat.{eq-or-lt_of_le}
use Rattle.std.proofs.Math.Seq.{take-suc}
use Rattle.std.proofs.lemmas.List.{get_or_default}
use Rattle.mio_relay.specs.Connections.{AllBelow, ConnectionState}
use Rattle.mio_relay.specs.Holding.{HoldsMost, held_at, held_in, most_held}

-- what one more holds is added
held_push : (slots : List (Option ConnectionState)) (slot : Option ConnectionState) → held_in (slots ++ slot ∷ []) ≡ held_in slots + held_at slot
held_push [] slot = add_comm (held_at slot) 0
held_push (s ∷ slots) slot =
    let more : held_in (slots ++ slot ∷ []) ≡ held_in slots + held_at slot = held_push slots slot in
    let all : held_at s + held_in (slots ++ slot ∷ []) ≡ held_at s + held_in slots + held_at slot = omega (arith, more) in all

-- how much those up to the next one hold
held_next : (slots : List (Option ConnectionState)) (i : ℕ) (slot : Option ConnectionState) → i < length slots → slot ≡ get_or slots i slot
    → held_in (take (i + 1) slots) ≡ held_in (take i slots) + held_at slot
held_next slots i slot lt at =
    ap (λ (k : ℕ). held_in (take k slots)) (add-one i) ∙ ap held_in (take-suc slots i slot lt)
    ∙ ap (λ (s : Option ConnectionState). held_in (take i slots ++ s ∷ [])) (sym at) ∙ held_push (take i slots) slot

-- the sum counts them, unless it is past what they may hold
abbrev pub Counts : ℕ → List (Option ConnectionState) → Type 0
Counts sum slots = sum ≤ most_held → held_in slots ≤ sum

-- none is counted yet
pub counts_none : (slots : List (Option ConnectionState)) → Counts 0 (take 0 slots)
counts_none [] within = let none : 0 ≤ 0 = omega arith in none
counts_none (slot ∷ slots) within = let none : 0 ≤ 0 = omega arith in none

-- so it does with one more
pub counts_more : (slots : List (Option ConnectionState)) (i : ℕ) (slot : Option ConnectionState) (sum more new : ℕ) → i < length slots → slot ≡ get_or slots i slot
    → more ≡ held_at slot → (new ≤ most_held → new ≡ sum + more) → Counts sum (take i slots) → Counts new (take (i + 1) slots)
counts_more slots i slot sum more new lt at is adds was within =
    let e = adds within in
    let before = was (omega (arith, e)) in
    omega (arith, e, before, is, held_next slots i slot lt at)

-- each of these below a key holds at most so much
abbrev pub HoldAtMost : ℕ → ℕ → List (Option ConnectionState) → Type 0
HoldAtMost most end slots = AllBelow (λ slot. held_at slot ≤ most) end slots

-- and what is at this key holds so much
abbrev pub HoldsSo : ℕ → ℕ → List (Option ConnectionState) → Type 0
HoldsSo most key slots = (none : Option ConnectionState) → most ≤ held_at (slice_index_or slots key none)

-- with the next one, which holds at most so much
pub at_most_more : (slots : List (Option ConnectionState)) (key was most held : ℕ) (slot : Option ConnectionState) → slot ≡ get_or slots key slot → key < length slots
    → held ≡ held_at slot → was ≤ most → held ≤ most → HoldAtMost was key slots → HoldAtMost most (key + 1) slots
at_most_more slots key was most held slot at in_ is less fits below k none lt within = by (eq-or-lt_of_le {n = k} {m = key} (omega arith))
  where
    there : held_at (slice_index_or slots key none) ≡ held
    there = ap held_at (get_or_default slots key none slot in_ ∙ sym at) ∙ sym is

    by : (k ≡ key) ⊎ (k < key) → held_at (slice_index_or slots k none) ≤ most
    by (inl e) = subst (λ (j : ℕ). held_at (slice_index_or slots j none) ≤ most) (sym e) (omega (arith, there, fits))
    by (inr l) = let b = below k none l within in omega (arith, b, less)

-- the next one holds so much
pub holds_so : (slots : List (Option ConnectionState)) (key held : ℕ) (slot : Option ConnectionState) → slot ≡ get_or slots key slot → key < length slots → held ≡ held_at slot
    → HoldsSo held key slots
holds_so slots key held slot at in_ is none =
    let e : held_at (slice_index_or slots key none) ≡ held = ap held_at (get_or_default slots key none slot in_ ∙ sym at) ∙ sym is in omega (arith, e)

-- none holds more than that
pub holds_most : (slots : List (Option ConnectionState)) (key most end : ℕ) → length slots ≤ end → HoldAtMost most end slots → HoldsSo most key slots → HoldsMost key slots
holds_most slots key most end past below so none k d lt within =
    let b = below k d (omega arith) within in
    let s = so none in
    omega (arith, b, s)

-- what isn't past the sum isn't past what that may be
pub no_more_than : {held most : ℕ} (sum : ℕ) → held ≤ sum → sum ≤ most → held ≤ most
no_more_than sum all within = omega (arith, all, within)

-- the new most is what one more holds, which is more than the old one
pub so_much : (was held most : ℕ) → most ≡ held → was < held → was ≤ most
so_much was held most is less = omega (arith, is, less)

-- it is just this
pub as_much : (was most : ℕ) → most ≡ was → was ≤ most
as_much was most is = omega (arith, is)

-- it is the old one, and one more holds no more than that
pub no_more : (was held most : ℕ) → most ≡ was → held ≤ was → held ≤ most
no_more was held most is fits = omega (arith, is, fits)
