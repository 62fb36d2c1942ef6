-- A length and as many bytes: what it says, and that it says one thing only.
use Rattle.std.proofs.Common.{◌≡◌, ℕ, ◌+◌, ◌^◌, ◌<◌, ◌≤◌, List, ◌++◌, length, take, drop, Some, refl, sym, ap, subst, ◌∙◌, arith, inl, inr}
use Rattle.std.specs.List.{concat}
use Rattle.std.specs.Int.{w32, to_be_bytes}
use Rattle.std.proofs.lemmas.List.{take_at, drop_at, length-append, length-take-le, take-append-drop}
use Rattle.chunk_journal.specs.Records.{Record, Seal, Append, Queue, Purge, append_fixed, body_of, record_bytes, longest_body, IsRecord}
use Rattle.chunk_journal.specs.Journal.{IsTorn, IsBad, said_length}
use Rattle.chunk_journal.specs.Reading.{IsLength, IsFramed, framed}
use Rattle.chunk_journal.specs.Fields.{number_at}
use Rattle.chunk_journal.proofs.Numbers.{AreBytes, wide32, number_parts}

-- what stands at the front of a frame is its length
pub said_of : (body rest : List ℕ) → length body < 2 ^ 32 → said_length (framed body ++ rest) ≡ length body
said_of body rest lt = wide32.again (length body) lt

-- two frames with one beginning are one
pub same_frame : (one other x y : List ℕ) → length one < 2 ^ 32 → length other < 2 ^ 32 → framed one ++ x ≡ framed other ++ y → (one ≡ other) × (x ≡ y)
same_frame one other x y p q e =
    let n : length one ≡ length other = sym (said_of one x p) ∙ ap said_length e ∙ said_of other y q in
    let tail : one ++ x ≡ other ++ y = ap (drop 4) e in
    let a : one ≡ other = sym (take_at one x (length one) refl) ∙ ap (take (length one)) tail ∙ take_at other y (length one) (sym n) in
    let b : x ≡ y = sym (drop_at one x (length one) refl) ∙ ap (drop (length one)) tail ∙ drop_at other y (length one) (sym n) in
    (a, b)

-- a record has a kind
pub some_body : (item : Record) → 0 < length (body_of item)
some_body (Seal next) = omega arith
some_body (Append serial tag entries) = omega arith
some_body (Queue serial) = omega arith
some_body (Purge serial) = omega arith

-- a record's length is one that a record may have
pub record_length : (item : Record) → IsRecord item → IsLength (length (body_of item))
record_length item is = record { some = some_body item; short = is.short }

-- where a record stands, its frame stands
pub record_framed : (item : Record) (more bytes : List ℕ) → IsRecord item → bytes ≡ record_bytes item ++ more → IsFramed bytes (body_of item) more
record_framed item more bytes is e = record { length_fits = record_length item is; whole = e }

-- bytes with a whole frame are one frame
pub one_frame : (bytes one other x y : List ℕ) → IsFramed bytes one x → IsFramed bytes other y → (one ≡ other) × (x ≡ y)
one_frame bytes one other x y f g =
    same_frame one other x y (omega (arith, f.length_fits.short)) (omega (arith, g.length_fits.short)) (sym f.whole ∙ g.whole)

-- a whole frame isn't torn
pub framed_whole : (bytes body rest : List ℕ) → IsFramed bytes body rest → IsTorn bytes → ⊥
framed_whole bytes body rest f torn = not_torn (subst IsTorn f.whole torn)
  where
    said : said_length (framed body ++ rest) ≡ length body
    said = said_of body rest (omega (arith, f.length_fits.short))

    not_torn : IsTorn (framed body ++ rest) → ⊥
    not_torn (inl short) = absurd (omega (arith, length-append body rest))
    not_torn (inr torn) = absurd (omega (arith, torn.2, said, length-append body rest))

-- a whole length that no record has begins no record
pub bad_length : (bytes : List ℕ) → (IsTorn bytes → ⊥) → (IsLength (said_length bytes) → ⊥) → IsBad bytes
bad_length bytes whole bad = record {
  whole = whole;
  none = λ item more is e.
      let n = record_length item is in
      bad (subst IsLength (sym (ap said_length e ∙ said_of (body_of item) more (omega (arith, n.short)))) n);
}

-- as many bytes as the length says are a frame
pub frame_split : (bytes behind front back : List ℕ) (n : ℕ) → AreBytes bytes → number_at w32 bytes ≡ Some (n, behind) → (n ≡ 0 → ⊥) → n ≤ longest_body
    → n ≤ length behind → front ≡ take n behind → back ≡ drop n behind → IsFramed bytes front back
frame_split bytes behind front back n fits e some short long f b =
    let t = number_parts w32 (2 ^ 32) wide32 bytes n behind fits e in
    let len : length front ≡ n = ap length f ∙ length-take-le n behind long in
    record {
      length_fits = record { some = omega (arith, some); short = omega arith };
      whole = rw (len, f, b, take-append-drop n behind) t.0.parts;
    }

-- how long an Append is
pub append_length : (serial : ℕ) (tag : List ℕ) (entries : List (List ℕ)) → length (body_of (Append serial tag entries)) ≡ append_fixed + length tag + length (concat entries)
append_length serial tag entries = omega (arith, length-append tag (to_be_bytes w32 (length entries) ++ concat entries))
