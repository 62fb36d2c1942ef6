-- An Append, as its fields are read and written.
use Rattle.std.proofs.Common.{◌≡◌, ℕ, ◌+◌, ◌^◌, ◌<◌, ◌≤◌, List, [], ◌∷◌, ◌++◌, length, get_or, Some, None, refl, sym, ap, ◌∙◌, append_assoc, arith, drop}
use Rattle.std.specs.List.{concat}
use Rattle.std.specs.Int.{w16, w32, w64, to_be_bytes}
use Rattle.std.proofs.lemmas.List.{nil_from_length, append-nil}
use Rattle.event_modes.specs.Rows.{AreEntries}
use Rattle.event_modes.proofs.Stored.{no_longer}
use Rattle.chunk_journal.specs.Records.{Record, Seal, Append, Queue, Purge, append_fixed, append_head, body_of, record_bytes, numbered, longest_body, HasFields}
use Rattle.chunk_journal.specs.Fields.{Fields, number_at, parts_from}
use Rattle.chunk_journal.specs.Reading.{IsAppendOf, IsFramed}
use Rattle.chunk_journal.specs.Journal.{IsBad}
use Rattle.chunk_journal.proofs.Numbers.{AreBytes, wide64, bytes_behind, number_parts, fields_parts, fields_again}
use Rattle.chunk_journal.proofs.Frames.{append_length, framed_whole, one_frame, record_framed}

-- the fields that an Append is read back as
pub record ReadsBack (item : Record) (bytes : List ℕ) : Type 0 where
  pub fields : Fields
  pub entries : List (List ℕ)
  pub found : parts_from bytes ≡ Some fields
  pub stored : AreEntries entries fields.count fields.stored
  pub is : item ≡ Append fields.serial fields.tag entries

-- an Append's fields are read back, within the limit of a record
pub append_back : (item : Record) (bytes : List ℕ) → length bytes ≤ longest_body → IsAppendOf item bytes → ReadsBack item bytes
append_back (Seal next) bytes le is = absurd is
append_back (Append serial tag entries) bytes le is =
    let k = no_longer entries is.0.stored in
    let n : length bytes ≡ 14 + length tag + length (concat entries) = ap length is.1 ∙ omega (arith, append_length serial tag entries) in
    record {
      fields = record { serial = serial; tag = tag; count = length entries; stored = concat entries };
      entries = entries;
      found = rw is.1 (fields_again serial tag (length entries) (concat entries) is.0.serial_fits is.0.tag_fits (omega arith));
      stored = record { each = is.0.stored; all = refl; whole = refl };
      is = refl;
    }
append_back (Queue serial) bytes le is = absurd is
append_back (Purge serial) bytes le is = absurd is

-- fields with such entries are an Append's
pub append_found : (bytes : List ℕ) (f : Fields) (entries : List (List ℕ)) → AreBytes bytes → parts_from bytes ≡ Some f → AreEntries entries f.count f.stored
    → IsAppendOf (Append f.serial f.tag entries) bytes
append_found bytes f entries fits e stored =
    let a = fields_parts bytes f fits e in (
      record { serial_fits = a.serial; tag_fits = a.tag; stored = stored.each },
      a.whole
          ∙ ap (λ (n : ℕ). to_be_bytes w64 f.serial ++ (to_be_bytes w16 (length f.tag) ++ (f.tag ++ (to_be_bytes w32 n ++ f.stored)))) (sym stored.all)
          ∙ ap (λ (x : List ℕ). to_be_bytes w64 f.serial ++ (to_be_bytes w16 (length f.tag) ++ (f.tag ++ (to_be_bytes w32 (length entries) ++ x)))) (sym stored.whole),
    )

-- a body of kind 2 is an Append's
pub kind_two : (item : Record) (fields : List ℕ) → HasFields item → 2 ∷ fields ≡ body_of item → IsAppendOf item fields
kind_two (Seal next) fields h e = absurd (omega (arith, ap (λ (x : List ℕ). get_or x 0 0) e))
kind_two (Append serial tag entries) fields h e = (h, cc)
kind_two (Queue serial) fields h e = absurd (omega (arith, ap (λ (x : List ℕ). get_or x 0 0) e))
kind_two (Purge serial) fields h e = absurd (omega (arith, ap (λ (x : List ℕ). get_or x 0 0) e))

-- bytes that begin with a kind
kind_first : (body : List ℕ) (kind : ℕ) → 1 ≤ length body → get_or body 0 0 ≡ kind → body ≡ kind ∷ drop 1 body
kind_first [] kind le e = absurd (omega arith)
kind_first (b ∷ body) kind le e = ap (λ (x : ℕ). x ∷ body) e

-- the same, where the kind is the first of the bytes
pub kind_two_at : (item : Record) (body : List ℕ) → 1 ≤ length body → get_or body 0 0 ≡ 2 → HasFields item → body ≡ body_of item → IsAppendOf item (drop 1 body)
kind_two_at item body le k h e = kind_two item (drop 1 body) h (sym (kind_first body 2 le k) ∙ e)

-- a kind and a number behind it, and nothing more
pub number_found : (body : List ℕ) (kind n : ℕ) (rest : List ℕ) → AreBytes body → 1 ≤ length body → get_or body 0 0 ≡ kind → number_at w64 (drop 1 body) ≡ Some (n, rest)
    → length rest < 1 → (n < 2 ^ 64) × (body ≡ numbered kind n)
number_found body kind n rest fits le k e short =
    let t = number_parts w64 (2 ^ 64) wide64 (drop 1 body) n rest (bytes_behind 1 body fits) e in
    let none : rest ≡ [] = nil_from_length rest (omega arith) in
    (t.1, kind_first body kind le k ∙ ap (λ (x : List ℕ). kind ∷ x) (t.0.parts ∙ ap (λ (x : List ℕ). to_be_bytes w64 n ++ x) none ∙ append-nil (to_be_bytes w64 n)))

pub none_some : {X : Type 0} (x : X) → None ≡ Some x → ⊥
none_some x e = absurd cc

-- a frame that spells no record begins none
pub no_parse : (bytes body rest : List ℕ) → IsFramed bytes body rest → ((item : Record) → HasFields item → body ≡ body_of item → ⊥) → IsBad bytes
no_parse bytes body rest f none = record {
  whole = framed_whole bytes body rest f;
  none = λ item more is e. none item is.fields (one_frame bytes body (body_of item) rest more f (record_framed item more bytes is e)).0;
}

-- ---- an Append as it is written

-- a record is what stands before its entries, and these
pub record_split : (serial : ℕ) (tag : List ℕ) (entries : List (List ℕ))
    → record_bytes (Append serial tag entries) ≡ append_head serial tag (length entries) (length (concat entries)) ++ concat entries
record_split serial tag entries =
    let a = to_be_bytes w64 serial in
    let b = to_be_bytes w16 (length tag) in
    let d = to_be_bytes w32 (length entries) in
    let e = concat entries in
    let front : List ℕ = 2 ∷ (a ++ (b ++ (tag ++ d))) in
    let split : body_of (Append serial tag entries) ≡ front ++ e = ap (λ (z : List ℕ). 2 ∷ z)
    (sym (append_assoc a (b ++ (tag ++ d)) e ∙ ap (λ (z : List ℕ). a ++ z) (append_assoc b (tag ++ d) e ∙ ap (λ (z : List ℕ). b ++ z) (append_assoc tag d e)))) in
    ap (λ (n : ℕ). to_be_bytes w32 n ++ body_of (Append serial tag entries)) (append_length serial tag entries)
    ∙ ap (λ (z : List ℕ). to_be_bytes w32 (append_fixed + length tag + length e) ++ z) split
    ∙ sym (append_assoc (to_be_bytes w32 (append_fixed + length tag + length e)) front e)

-- the writes of a head, one after another
head_parts : (old a b c d e f x1 x2 x3 x4 x5 : List ℕ) → a ≡ old ++ x1 → b ≡ a ++ 2 ∷ [] → c ≡ b ++ x2 → d ≡ c ++ x3 → e ≡ d ++ x4 → f ≡ e ++ x5
    → f ≡ old ++ (x1 ++ (2 ∷ (x2 ++ (x3 ++ (x4 ++ x5)))))
head_parts old a b c d e f x1 x2 x3 x4 x5 p q r s t u = rw (u, t, s, r, q, p) (simp append_assoc)

-- they are the head
pub head_written : (old a b c d e f x1 x2 x3 x5 : List ℕ) (serial : ℕ) (tag : List ℕ) (count size : ℕ)
    → a ≡ old ++ x1 → b ≡ a ++ 2 ∷ [] → c ≡ b ++ x2 → d ≡ c ++ x3 → e ≡ d ++ tag → f ≡ e ++ x5
    → x1 ≡ to_be_bytes w32 (append_fixed + length tag + size) → x2 ≡ to_be_bytes w64 serial → x3 ≡ to_be_bytes w16 (length tag) → x5 ≡ to_be_bytes w32 count
    → f ≡ old ++ append_head serial tag count size
head_written old a b c d e f x1 x2 x3 x5 serial tag count size p1 p2 p3 p4 p5 p6 q1 q2 q3 q5 =
    head_parts old a b c d e f x1 x2 x3 tag x5 p1 p2 p3 p4 p5 p6
    ∙ written old x1 x2 x3 x5 (to_be_bytes w32 (append_fixed + length tag + size)) (to_be_bytes w64 serial) (to_be_bytes w16 (length tag)) (to_be_bytes w32 count) tag q1 q2 q3 q5
  where
    written : (old x1 x2 x3 x5 y1 y2 y3 y5 tag : List ℕ) → x1 ≡ y1 → x2 ≡ y2 → x3 ≡ y3 → x5 ≡ y5
        → old ++ (x1 ++ (2 ∷ (x2 ++ (x3 ++ (tag ++ x5))))) ≡ old ++ (y1 ++ (2 ∷ (y2 ++ (y3 ++ (tag ++ y5)))))
    written old x1 x2 x3 x5 y1 y2 y3 y5 tag a b c d = cc

-- the head and then the entries are an Append's bytes
pub append_written : (old mid new stored : List ℕ) (serial : ℕ) (tag : List ℕ) (entries : List (List ℕ)) (count : ℕ)
    → mid ≡ old ++ append_head serial tag count (length stored) → new ≡ mid ++ stored → count ≡ length entries → stored ≡ concat entries → new ≡ old ++ record_bytes (Append serial tag entries)
append_written old mid new stored serial tag entries count head rest counted all =
    rest ∙ ap (λ (z : List ℕ). z ++ stored) head ∙ append_assoc old (append_head serial tag count (length stored)) stored
    ∙ ap (λ (n : ℕ). old ++ (append_head serial tag n (length stored) ++ stored)) counted ∙ ap (λ (z : List ℕ). old ++ (append_head serial tag (length entries) (length z) ++ z)) all
    ∙ ap (λ (z : List ℕ). old ++ z) (sym (record_split serial tag entries))
