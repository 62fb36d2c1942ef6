-- What a beginning of a journal is.
use Rattle.std.proofs.Common.{◌≡◌, ℕ, zero, suc, ◌+◌, ◌-◌, ◌<◌, ◌≤◌, Bool, true, false, cond, ltb, List, [], ◌∷◌, ◌++◌, length, take, refl, sym, ap, subst, ◌∙◌, append_assoc, arith, inl, inr}
use Rattle.std.specs.List.{AllByRecursion}
use Rattle.std.specs.Int.{w32, from_be_bytes}
use Rattle.std.proofs.lemmas.Bool.{cases_lt, ltb-false, ltb-true}
use Rattle.std.proofs.lemmas.List.{length-append, length-take, take-take}
use Rattle.chunk_journal.specs.Records.{Record, body_of, record_bytes, IsRecord}
use Rattle.chunk_journal.specs.Journal.{IsTorn, IsJournal, journal_bytes, said_length, within}
use Rattle.chunk_journal.specs.Reading.{IsLength}
use Rattle.chunk_journal.proofs.Frames.{said_of, record_length}

-- what ends within its length, or before as many bytes as it says, is torn
torn_by : (bytes : List ℕ) (n : ℕ) → said_length bytes ≡ n → IsLength n → length bytes < 4 + n → IsTorn bytes
torn_by bytes n e l lt = let is = subst IsLength (sym e) l in inr (is.some, is.short, omega arith)

torn_short : (bytes : List ℕ) → length bytes < 4 → IsTorn bytes
torn_short bytes lt = inl lt

-- a beginning of torn bytes is torn
torn_take : (n : ℕ) (bytes : List ℕ) → IsTorn bytes → IsTorn (take n bytes)
torn_take n bytes (inl short) = torn_short (take n bytes) (omega (arith, length-take n bytes))
torn_take n bytes (inr torn) =
    elim (cases_lt n 4) [
      | inl lt ↦ torn_short (take n bytes) (omega (arith, length-take n bytes))
      | inr le ↦ torn_by (take n bytes) (said_length bytes) (ap (from_be_bytes w32) (take-take 4 n bytes le)) (record { some = torn.0; short = torn.1 }) (omega (arith, torn.2, length-take n bytes))
    ]

-- a proper beginning of a record is torn
torn_record : (n : ℕ) (item : Record) (more : List ℕ) → IsRecord item → n < length (record_bytes item) → IsTorn (take n (record_bytes item ++ more))
torn_record n item more is lt =
    let l = record_length item is in
    elim (cases_lt n 4) [
      | inl short ↦ torn_short (take n (record_bytes item ++ more)) (omega (arith, length-take n (record_bytes item ++ more)))
      | inr le ↦ torn_by (take n (record_bytes item ++ more)) (length (body_of item))
          (ap (from_be_bytes w32) (take-take 4 n (record_bytes item ++ more) le) ∙ said_of (body_of item) more (omega (arith, l.short))) l
          (omega (arith, length-take n (record_bytes item ++ more)))
    ]

take_past : (front back : List ℕ) (n : ℕ) → length front ≤ n → take n (front ++ back) ≡ front ++ take (n - length front) back
take_past [] back n le = ap (λ (k : ℕ). take k back) (omega arith)
take_past (x ∷ front) back zero le = absurd (omega arith)
take_past (x ∷ front) back (suc n) le =
    ap (λ (z : List ℕ). x ∷ z) (take_past front back n (omega arith)) ∙ ap (λ (k : ℕ). x ∷ (front ++ take k back)) (omega arith)

joined : (item : Record) (records : List Record) (rest : List ℕ) → journal_bytes (item ∷ records) ++ rest ≡ record_bytes item ++ (journal_bytes records ++ rest)
joined item records rest = append_assoc (record_bytes item) (journal_bytes records) rest

-- whether the first record ends within the cut
cut_first : (item : Record) (records : List Record) (rest : List ℕ) (n : ℕ) (b : Bool) → ltb n (length (record_bytes item)) ≡ b → IsRecord item
    → (end : List ℕ) × IsJournal (take (n - length (record_bytes item)) (journal_bytes records ++ rest)) (take (within records (n - length (record_bytes item))) records) end
    → (end : List ℕ) × IsJournal (take n (journal_bytes (item ∷ records) ++ rest)) (take (cond b 0 (suc (within records (n - length (record_bytes item))))) (item ∷ records)) end
cut_first item records rest n true e is r = (
  take n (journal_bytes (item ∷ records) ++ rest),
  record {
    each = tt;
    whole = refl;
    torn = subst (λ (z : List ℕ). IsTorn (take n z)) (sym (joined item records rest)) (torn_record n item (journal_bytes records ++ rest) is (ltb-true _ _ e));
  },
)
cut_first item records rest n false e is r = (
  r.0,
  record {
    each = (is, r.1.each);
    whole = ap (take n) (joined item records rest) ∙ take_past (record_bytes item) (journal_bytes records ++ rest) n (ltb-false _ _ e)
        ∙ ap (λ (z : List ℕ). record_bytes item ++ z) r.1.whole
        ∙ sym (append_assoc (record_bytes item) (journal_bytes (take (within records (n - length (record_bytes item))) records)) r.0);
    torn = r.1.torn;
  },
)

cut_from : (records : List Record) (rest : List ℕ) (n : ℕ) → AllByRecursion IsRecord records → IsTorn rest
    → (end : List ℕ) × IsJournal (take n (journal_bytes records ++ rest)) (take (within records n) records) end
cut_from [] rest n each torn = (take n rest, record { each = tt; whole = refl; torn = torn_take n rest torn })
cut_from (item ∷ records) rest n each torn =
    cut_first item records rest n (ltb n (length (record_bytes item))) refl each.0 (cut_from records rest (n - length (record_bytes item)) each.1 torn)

pub cut_whole : (bytes : List ℕ) (records : List Record) (rest : List ℕ) (n : ℕ) → IsJournal bytes records rest
    → (end : List ℕ) × IsJournal (take n bytes) (take (within records n) records) end
cut_whole bytes records rest n j =
    let r = cut_from records rest n j.each j.torn in
    (r.0, subst (λ (z : List ℕ). IsJournal (take n z) (take (within records n) records) r.0) (sym j.whole) r.1)

-- ---- how many

rises_by : (len n m x y : ℕ) (a b : Bool) → n ≤ m → x ≤ y → ltb n len ≡ a → ltb m len ≡ b → cond a 0 (suc x) ≤ cond b 0 (suc y)
rises_by len n m x y true true le less e f = omega arith
rises_by len n m x y true false le less e f = omega arith
rises_by len n m x y false true le less e f = absurd (omega (arith, ltb-false _ _ e, ltb-true _ _ f))
rises_by len n m x y false false le less e f = omega arith

pub within_rises : (records : List Record) (n m : ℕ) → n ≤ m → within records n ≤ within records m
within_rises [] n m le = omega arith
within_rises (item ∷ records) n m le =
    let len = length (record_bytes item) in
    rises_by len n m (within records (n - len)) (within records (m - len)) (ltb n len) (ltb m len) le (within_rises records (n - len) (m - len) (omega arith)) refl refl

all_by : (len n x y : ℕ) (b : Bool) → len ≤ n → x ≡ y → ltb n len ≡ b → cond b 0 (suc x) ≡ suc y
all_by len n x y true le e f = absurd (omega (arith, ltb-true _ _ f))
all_by len n x y false le e f = ap suc e

pub within_all : (records : List Record) (n : ℕ) → length (journal_bytes records) ≤ n → within records n ≡ length records
within_all [] n le = refl
within_all (item ∷ records) n le =
    let len = length (record_bytes item) in
    let total : length (journal_bytes (item ∷ records)) ≡ length (record_bytes item) + length (journal_bytes records) = length-append (record_bytes item) (journal_bytes records) in
    all_by len n (within records (n - len)) (length records) (ltb n len) (omega (arith, total)) (within_all records (n - len) (omega (arith, total))) refl
