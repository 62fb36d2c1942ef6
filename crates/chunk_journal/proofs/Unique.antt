-- Bytes begin with one record only, and are one journal only.
use Rattle.std.proofs.Common.{◌≡◌, ℕ, ◌^◌, ◌<◌, ◌≤◌, List, [], ◌∷◌, ◌++◌, length, get_or, drop, refl, sym, ap, ◌∙◌, append_assoc, arith}
use Rattle.std.specs.List.{AllByRecursion, concat}
use Rattle.std.specs.Int.{w64, to_be_bytes}
use Rattle.msgpack_bytes.specs.Laws.{HasOneFront}
use Rattle.event_modes.specs.Rows.{IsStored}
use Rattle.event_modes.proofs.Stored.{no_longer}
use Rattle.chunk_journal.specs.Records.{Record, Seal, Append, Queue, Purge, body_of, record_bytes, numbered, longest_body, IsAppend, IsRecord}
use Rattle.chunk_journal.specs.Fields.{Fields}
use Rattle.chunk_journal.specs.Reading.{append_fields}
use Rattle.chunk_journal.specs.Journal.{IsTorn, IsJournal, journal_bytes}
use Rattle.chunk_journal.proofs.Numbers.{wide64, same_number, is_some, fields_again}
use Rattle.chunk_journal.specs.Fields.{parts_from}
use Rattle.chunk_journal.proofs.Frames.{same_frame, framed_whole, record_framed, append_length}

-- ---- one record

-- stored entries one after another are one list only, of so many
same_entries : HasOneFront → (one other : List (List ℕ)) → AllByRecursion IsStored one → AllByRecursion IsStored other → length one ≡ length other → concat one ≡ concat other → one ≡ other
same_entries law [] [] a b n e = refl
same_entries law [] (y ∷ other) a b n e = absurd (omega arith)
same_entries law (x ∷ one) [] a b n e = absurd (omega arith)
same_entries law (x ∷ one) (y ∷ other) a b n e =
    let f = law x y (concat one) (concat other) a.0.item b.0.item e in
    let p = f.0 in
    let q = same_entries law one other a.1 b.1 (omega arith) f.1 in
    cc

same_numbered : (kind n m : ℕ) → n < 2 ^ 64 → m < 2 ^ 64 → numbered kind n ≡ numbered kind m → n ≡ m
same_numbered kind n m p q e = same_number w64 (2 ^ 64) wide64 n m p q (ap (drop 1) e)

other_kind : (a b : ℕ) (x y : List ℕ) → a ∷ x ≡ b ∷ y → a ≡ b
other_kind a b x y e = ap (λ (z : List ℕ). get_or z 0 0) e

same_append : HasOneFront → (s t : ℕ) (a b : List ℕ) (one other : List (List ℕ)) → IsAppend s a one → IsAppend t b other → length (body_of (Append s a one)) ≤ longest_body → length (body_of (Append t b other)) ≤ longest_body
    → append_fields s a one ≡ append_fields t b other → Append s a one ≡ Append t b other
same_append law s t a b one other p q m n e =
    let i = fields_again s a (length one) (concat one) p.serial_fits p.tag_fits (omega (arith, no_longer one p.stored, append_length s a one)) in
    let j = fields_again t b (length other) (concat other) q.serial_fits q.tag_fits (omega (arith, no_longer other q.stored, append_length t b other)) in
    let f : fields s a one ≡ fields t b other = is_some (fields s a one) (fields t b other) (sym i ∙ ap parts_from e ∙ j) in
    let x : s ≡ t = ap (λ (z : Fields). z.serial) f in
    let y : a ≡ b = ap (λ (z : Fields). z.tag) f in
    let z : one ≡ other = same_entries law one other p.stored q.stored (ap (λ (z : Fields). z.count) f) (ap (λ (z : Fields). z.stored) f) in
    cc
  where
    fields : ℕ → List ℕ → List (List ℕ) → Fields
    fields serial tag entries = record { serial = serial; tag = tag; count = length entries; stored = concat entries }

-- a body spells one record only
same_body : HasOneFront → (one other : Record) → IsRecord one → IsRecord other → body_of one ≡ body_of other → one ≡ other
same_body law (Seal n) (Seal m) a b e = ap (λ (z : ℕ). Seal z) (same_numbered 1 n m a.fields b.fields e)
same_body law (Seal n) (Append t y es) a b e = absurd (omega (arith, other_kind 1 2 (to_be_bytes w64 n) (append_fields t y es) e))
same_body law (Seal n) (Queue m) a b e = absurd (omega (arith, other_kind 1 3 (to_be_bytes w64 n) (to_be_bytes w64 m) e))
same_body law (Seal n) (Purge m) a b e = absurd (omega (arith, other_kind 1 4 (to_be_bytes w64 n) (to_be_bytes w64 m) e))
same_body law (Append s x ds) (Seal m) a b e = absurd (omega (arith, other_kind 2 1 (append_fields s x ds) (to_be_bytes w64 m) e))
same_body law (Append s x ds) (Append t y es) a b e = same_append law s t x y ds es a.fields b.fields a.short b.short (ap (drop 1) e)
same_body law (Append s x ds) (Queue m) a b e = absurd (omega (arith, other_kind 2 3 (append_fields s x ds) (to_be_bytes w64 m) e))
same_body law (Append s x ds) (Purge m) a b e = absurd (omega (arith, other_kind 2 4 (append_fields s x ds) (to_be_bytes w64 m) e))
same_body law (Queue n) (Seal m) a b e = absurd (omega (arith, other_kind 3 1 (to_be_bytes w64 n) (to_be_bytes w64 m) e))
same_body law (Queue n) (Append t y es) a b e = absurd (omega (arith, other_kind 3 2 (to_be_bytes w64 n) (append_fields t y es) e))
same_body law (Queue n) (Queue m) a b e = ap (λ (z : ℕ). Queue z) (same_numbered 3 n m a.fields b.fields e)
same_body law (Queue n) (Purge m) a b e = absurd (omega (arith, other_kind 3 4 (to_be_bytes w64 n) (to_be_bytes w64 m) e))
same_body law (Purge n) (Seal m) a b e = absurd (omega (arith, other_kind 4 1 (to_be_bytes w64 n) (to_be_bytes w64 m) e))
same_body law (Purge n) (Append t y es) a b e = absurd (omega (arith, other_kind 4 2 (to_be_bytes w64 n) (append_fields t y es) e))
same_body law (Purge n) (Queue m) a b e = absurd (omega (arith, other_kind 4 3 (to_be_bytes w64 n) (to_be_bytes w64 m) e))
same_body law (Purge n) (Purge m) a b e = ap (λ (z : ℕ). Purge z) (same_numbered 4 n m a.fields b.fields e)

-- bytes begin with one record only
pub same_start : HasOneFront → (one other : Record) (x y : List ℕ) → IsRecord one → IsRecord other → record_bytes one ++ x ≡ record_bytes other ++ y → (one ≡ other) × (x ≡ y)
same_start law one other x y a b e =
    let f = same_frame (body_of one) (body_of other) x y (omega (arith, a.short)) (omega (arith, b.short)) e in
    (same_body law one other a b f.0, f.1)

-- ---- one journal

pub not_torn : (item : Record) (more bytes : List ℕ) → IsRecord item → bytes ≡ record_bytes item ++ more → IsTorn bytes → ⊥
not_torn item more bytes is e torn = framed_whole bytes (body_of item) more (record_framed item more bytes is e) torn

same_records : HasOneFront → (records others : List Record) (rest end : List ℕ) → AllByRecursion IsRecord records → AllByRecursion IsRecord others → IsTorn rest → IsTorn end
    → journal_bytes records ++ rest ≡ journal_bytes others ++ end → (records ≡ others) × (rest ≡ end)
same_records law [] [] rest end a b s t e = (refl, e)
same_records law [] (y ∷ others) rest end a b s t e =
    absurd (not_torn y (journal_bytes others ++ end) rest b.0 (e ∙ append_assoc (record_bytes y) (journal_bytes others) end) s)
same_records law (x ∷ records) [] rest end a b s t e =
    absurd (not_torn x (journal_bytes records ++ rest) end a.0 (sym e ∙ append_assoc (record_bytes x) (journal_bytes records) rest) t)
same_records law (x ∷ records) (y ∷ others) rest end a b s t e =
    let f = same_start law x y (journal_bytes records ++ rest) (journal_bytes others ++ end) a.0 b.0
    (sym (append_assoc (record_bytes x) (journal_bytes records) rest) ∙ e ∙ append_assoc (record_bytes y) (journal_bytes others) end) in
    let r = same_records law records others rest end a.1 b.1 s t f.1 in
    let p = f.0 in
    let q = r.0 in
    (cc, r.1)

-- there is one way to read bytes as a journal
pub same_journal : HasOneFront → (bytes : List ℕ) (records others : List Record) (rest end : List ℕ) → IsJournal bytes records rest → IsJournal bytes others end → (records ≡ others) × (rest ≡ end)
same_journal law bytes records others rest end a b =
    same_records law records others rest end a.each b.each a.torn b.torn (sym a.whole ∙ b.whole)
