-- Where reading stops for good.
use Rattle.std.proofs.Common.{ℕ, zero, suc, ◌≡◌, ◌+◌, ◌-◌, ◌<◌, List, [], ◌∷◌, ◌++◌, refl, ap, ◌∙◌, Ok, Err, arith, inl, inr, append_assoc}
use Rattle.std.proofs.lemmas.Grind.{common_steps}
use Rattle.msgpack_bytes.specs.declared.format.Shape.{Shape}
use Rattle.msgpack_bytes.specs.declared.format.Shape.TheVariants.{Fixed, Sized, Holds, Counted, Never}
use Rattle.msgpack_bytes.specs.Format.{items_in, shape_of}
use Rattle.msgpack_bytes.specs.Item.{Item}
use Rattle.msgpack_bytes.specs.Parts.{Row}
use Rattle.msgpack_bytes.specs.Stops.{Awaits, IsOfContainer}
use Rattle.msgpack_bytes.specs.Run.{Opens, Stop, Reserved, Deep, front_of, behind_first, content, number, then_, many, none, behind, flat, run}
use Rattle.msgpack_bytes.proofs.Fronts.{content_never_opens, wrong_never}
use Rattle.msgpack_bytes.proofs.Headers.{counts_container}
use Rattle.msgpack_bytes.proofs.Runs.{Answer, after_reserved, after_deep, behind_reserved, behind_deep}
use Rattle.msgpack_bytes.proofs.Items.{front_container, row_passed, run_container, item_read, read_item, opens_header, Before, glue}

-- only one byte begins no item
pub never_c1 : (byte : ℕ) → shape_of byte ≡ Never → byte ≡ 0xc1
unfolding shape_of
never_c1 byte e = grind (arith, common_steps)

pub c1_never : shape_of 0xc1 ≡ Never
unfolding shape_of
c1_never = refl

-- a stop, which no later byte mends
abbrev IsLasting : Stop → Type 0
IsLasting stop = (m : ℕ) (next : List ℕ → Answer) → then_ (Err stop) m next ≡ Err stop

pub lasting_reserved : IsLasting Reserved
lasting_reserved m next = refl

pub lasting_deep : IsLasting Deep
lasting_deep m next = refl

-- where an item that has to begin next stops the reading, so does all of it
pub awaits_stop : (stop : Stop) → IsLasting stop → (left depth : ℕ) (front back : List ℕ) → Awaits left depth front → run left back ≡ Err stop → run depth (front ++ back) ≡ Err stop
unfolding Awaits
awaits_stop stop lasts left zero front back (e, l) r = rw (e, ← l) r
awaits_stop stop lasts left (suc depth) front back (inl (e, l)) r = rw (e, ← l) r
awaits_stop stop lasts left (suc depth) front back (inr w) r =
    let all : ℕ = items_in w.container w.n in
    let few = w.fewer in
    let j : ℕ = all - suc w.k in
    let split : all ≡ w.k + suc j = omega arith in
    let here = awaits_stop stop lasts left depth w.behind back w.next r in
    let opened = run_container depth all (w.header ++ (w.before ++ (w.behind ++ back))) (w.before ++ (w.behind ++ back)) (front_container w.container w.n w.header (w.before ++ (w.behind ++ back)) w.counted) in
    let skipped = row_passed (Item depth) (run depth) (item_read depth) w.k (suc j) w.before (w.behind ++ back) w.parts in
    let first : many (run depth) (suc j) (w.behind ++ back) ≡ Err stop = rw here (lasts j (many (run depth) j)) in
    let same : front ++ back ≡ w.header ++ (w.before ++ (w.behind ++ back)) = rw w.whole (append_assoc w.header (w.before ++ w.behind) back ∙ ap (λ (xs : List ℕ). w.header ++ xs) (append_assoc w.before w.behind back)) in
    let parts : many (run depth) all (w.before ++ (w.behind ++ back)) ≡ Err stop = rw split (skipped ∙ first) in
    rw same (opened ∙ parts)

pub run_never : (depth byte : ℕ) (bytes : List ℕ) → shape_of byte ≡ Never → run depth (byte ∷ bytes) ≡ Err Reserved
unfolding run front_of
run_never zero byte bytes e = rw e refl
run_never (suc depth) byte bytes e = rw e refl

flat_container : (s : Shape) (bytes : List ℕ) → IsOfContainer s → flat s bytes ≡ Err Deep
flat_container (Fixed kind n) bytes h = absurd h
flat_container (Sized kind width extra) bytes h = absurd h
flat_container (Holds container n) bytes h = refl
flat_container (Counted container width) bytes h = refl
flat_container Never bytes h = absurd h

pub run_no_deeper : (byte : ℕ) (bytes : List ℕ) → IsOfContainer (shape_of byte) → run 0 (byte ∷ bytes) ≡ Err Deep
unfolding run
run_no_deeper byte bytes h = flat_container (shape_of byte) bytes h

pub reserved_stops : (left depth : ℕ) (front back : List ℕ) → Awaits left depth front → run depth (front ++ 0xc1 ∷ back) ≡ Err Reserved
reserved_stops left depth front back w = awaits_stop Reserved lasting_reserved left depth front (0xc1 ∷ back) w (run_never left 0xc1 back c1_never)

pub deep_stops : (depth byte : ℕ) (front back : List ℕ) → Awaits 0 depth front → IsOfContainer (shape_of byte) → run depth (front ++ byte ∷ back) ≡ Err Deep
deep_stops depth byte front back w h = awaits_stop Deep lasting_deep 0 depth front (byte ∷ back) w (run_no_deeper byte back h)

-- a part that stops the reading, behind fewer whole parts
record Stopped (part : List ℕ → Type 0) (f : List ℕ → Answer) (m : ℕ) (stop : Stop) (bytes : List ℕ) : Type 0 where
  k : ℕ
  before : List ℕ
  behind : List ℕ
  fewer : k < m
  parts : Row part k before
  stops : f behind ≡ Err stop
  whole : bytes ≡ before ++ behind

module _ (part : List ℕ → Type 0) (f : List ℕ → Answer) (is : (bytes rest : List ℕ) → f bytes ≡ Ok rest → Before part bytes rest) where
  none_before : (m : ℕ) (stop : Stop) (bytes : List ℕ) → f bytes ≡ Err stop → Stopped part f (suc m) stop bytes
  none_before m stop bytes e = record { k = 0; before = []; behind = bytes; fewer = omega arith; parts = refl; stops = e; whole = refl }

  one_before : (m : ℕ) (stop : Stop) (bytes rest : List ℕ) → f bytes ≡ Ok rest → Stopped part f m stop rest → Stopped part f (suc m) stop bytes
  one_before m stop bytes rest e s =
      let b = is bytes rest e in
      let few = s.fewer in
      record {
        k = suc s.k;
        before = b.front ++ s.before;
        behind = s.behind;
        fewer = omega arith;
        parts = (b.front, s.before, b.is, s.parts, refl);
        stops = s.stops;
        whole = glue bytes b.front rest s.before s.behind b.whole s.whole;
      }

  rows_reserved : (m : ℕ) (bytes : List ℕ) → many f m bytes ≡ Err Reserved → Stopped part f m Reserved bytes
  rows_reserved zero bytes e = absurd (cc)
  rows_reserved (suc m) bytes e =
      elim (after_reserved (f bytes) m (many f m) e) [
        | inl t ↦ one_before m Reserved bytes t.0 t.1 (rows_reserved m t.0 t.2)
        | inr h ↦ none_before m Reserved bytes h
      ]

  rows_deep : (m : ℕ) (bytes : List ℕ) → many f m bytes ≡ Err Deep → Stopped part f m Deep bytes
  rows_deep zero bytes e = absurd (cc)
  rows_deep (suc m) bytes e =
      elim (after_deep (f bytes) m (many f m) e) [
        | inl t ↦ one_before m Deep bytes t.0 t.1 (rows_deep m t.0 t.2)
        | inr h ↦ none_before m Deep bytes h
      ]

placed : (bytes count inner before behind front back : List ℕ) → bytes ≡ count ++ inner → inner ≡ before ++ behind → behind ≡ front ++ back → bytes ≡ (count ++ (before ++ front)) ++ back
placed bytes count inner before behind front back e f g = rw (e, f, g, append_assoc count (before ++ front) back, append_assoc before front back) refl

-- where the reading stopped, for such a first byte of the item at fault
pub record Fault (depth : ℕ) (bytes : List ℕ) (at_fault : ℕ → ℕ → Type 0) : Type 0 where
  pub left : ℕ
  pub byte : ℕ
  pub front : List ℕ
  pub rest : List ℕ
  pub begins : Awaits left depth front
  pub is : at_fault left byte
  pub whole : bytes ≡ front ++ byte ∷ rest

here_zero : (bytes : List ℕ) (byte : ℕ) (at_fault : ℕ → ℕ → Type 0) → at_fault 0 byte → Fault 0 (byte ∷ bytes) at_fault
unfolding Awaits
here_zero bytes byte at_fault h = record { left = 0; byte = byte; front = []; rest = bytes; begins = (refl, refl); is = h; whole = refl }

here_suc : (depth : ℕ) (bytes : List ℕ) (byte : ℕ) (at_fault : ℕ → ℕ → Type 0) → at_fault (suc depth) byte → Fault (suc depth) (byte ∷ bytes) at_fault
unfolding Awaits
here_suc depth bytes byte at_fault h = record { left = suc depth; byte = byte; front = []; rest = bytes; begins = inl (refl, refl); is = h; whole = refl }

inside_suc : (depth first m : ℕ) (stop : Stop) (bytes inner : List ℕ) (at_fault : ℕ → ℕ → Type 0) → behind_first (shape_of first) bytes ≡ Opens m inner → Stopped (Item depth) (run depth) m stop inner
    → ((behind : List ℕ) → run depth behind ≡ Err stop → Fault depth behind at_fault) → Fault (suc depth) (first ∷ bytes) at_fault
unfolding Awaits
inside_suc depth first m stop bytes inner at_fault e s deeper =
    let h = opens_header (shape_of first) m bytes inner e in
    let t = deeper s.behind s.stops in
    let header : List ℕ = first ∷ h.count_bytes in
    let few : s.k < items_in h.container h.n = rw h.items at s.fewer in
    record {
      left = t.left;
      byte = t.byte;
      front = header ++ (s.before ++ t.front);
      rest = t.rest;
      begins = inr (record { container = h.container; n = h.n; k = s.k; header = header; before = s.before; behind = t.front; counted = counts_container h.container h.n first h.count_bytes h.counts; fewer = few; parts = s.parts; next = t.begins; whole = refl });
      is = t.is;
      whole = ap (λ (xs : List ℕ). first ∷ xs) (placed bytes h.count_bytes inner s.before s.behind t.front (t.byte ∷ t.rest) h.whole s.whole t.whole);
    }

abbrev pub IsC1 : ℕ → ℕ → Type 0
IsC1 left byte = byte ≡ 0xc1

abbrev pub IsNoDeeper : ℕ → ℕ → Type 0
IsNoDeeper left byte = (left ≡ 0) × IsOfContainer (shape_of byte)

flat_reserved : (s : Shape) (bytes : List ℕ) → flat s bytes ≡ Err Reserved → s ≡ Never
flat_reserved (Fixed kind n) bytes e = elim (behind_reserved none (content n bytes) e) [ inl h ↦ wrong_never (Fixed kind n) bytes h | inr t ↦ absurd (content_never_opens n t.0 bytes t.1 t.2) ]
flat_reserved (Sized kind width extra) bytes e =
    let all : ℕ = width + number width bytes + extra in
    elim (behind_reserved none (content all bytes) e) [ inl h ↦ wrong_never (Sized kind width extra) bytes h | inr t ↦ absurd (content_never_opens all t.0 bytes t.1 t.2) ]
flat_reserved (Holds container n) bytes e = absurd (cc)
flat_reserved (Counted container width) bytes e = absurd (cc)
flat_reserved Never bytes e = refl

flat_deep : (s : Shape) (bytes : List ℕ) → flat s bytes ≡ Err Deep → IsOfContainer s
flat_deep (Fixed kind n) bytes e = (let t = behind_deep none (content n bytes) e in absurd (content_never_opens n t.0 bytes t.1 t.2))
flat_deep (Sized kind width extra) bytes e =
    let all : ℕ = width + number width bytes + extra in
    let t = behind_deep none (content all bytes) e in absurd (content_never_opens all t.0 bytes t.1 t.2)
flat_deep (Holds container n) bytes e = tt
flat_deep (Counted container width) bytes e = tt
flat_deep Never bytes e = absurd (cc)

pub reserved_fault : (depth : ℕ) (bytes : List ℕ) → run depth bytes ≡ Err Reserved → Fault depth bytes IsC1
unfolding run front_of
reserved_fault zero [] e = absurd (cc)
reserved_fault zero (first ∷ bytes) e = here_zero bytes first IsC1 (never_c1 first (flat_reserved (shape_of first) bytes e))
reserved_fault (suc depth) [] e = absurd (cc)
reserved_fault (suc depth) (first ∷ bytes) e =
    elim (behind_reserved (many (run depth)) (behind_first (shape_of first) bytes) e) [
      | inl h ↦ here_suc depth bytes first IsC1 (never_c1 first (wrong_never (shape_of first) bytes h))
      | inr t ↦ inside_suc depth first t.0 Reserved bytes t.1 IsC1 t.2 (rows_reserved (Item depth) (run depth) (read_item depth) t.0 t.1 t.3) (reserved_fault depth)
    ]

pub deep_fault : (depth : ℕ) (bytes : List ℕ) → run depth bytes ≡ Err Deep → Fault depth bytes IsNoDeeper
unfolding run front_of
deep_fault zero [] e = absurd (cc)
deep_fault zero (first ∷ bytes) e = here_zero bytes first IsNoDeeper (refl, flat_deep (shape_of first) bytes e)
deep_fault (suc depth) [] e = absurd (cc)
deep_fault (suc depth) (first ∷ bytes) e =
    let t = behind_deep (many (run depth)) (behind_first (shape_of first) bytes) e in
    inside_suc depth first t.0 Deep bytes t.1 IsNoDeeper t.2 (rows_deep (Item depth) (run depth) (read_item depth) t.0 t.1 t.3) (deep_fault depth)
