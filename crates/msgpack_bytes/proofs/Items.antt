-- Items are what is read.
use Rattle.std.proofs.Common.{ℕ, zero, suc, ◌≡◌, ◌+◌, ◌≤◌, List, [], ◌∷◌, ◌++◌, length, take, drop, refl, ap, sym, ◌∙◌, Ok, arith, inl, inr, append-nil, append_assoc, length-append, length-drop, suc-add, zero-add}
use Rattle.std.proofs.lemmas.List.{drop_at, drop_all, take-append-drop, length-take-le}
use Rattle.std.proofs.Math.Seq.{take-add}
use Rattle.msgpack_bytes.specs.declared.format.Kind.{Kind}
use Rattle.msgpack_bytes.specs.declared.format.Container.{Container}
use Rattle.msgpack_bytes.specs.declared.format.Shape.{Shape}
use Rattle.msgpack_bytes.specs.declared.format.Shape.TheVariants.{Fixed, Sized, Holds, Counted, Never}
use Rattle.msgpack_bytes.specs.Format.{big_endian, items_in, shape_of}
use Rattle.msgpack_bytes.specs.Sizes.{Sizes, Counts}
use Rattle.msgpack_bytes.specs.Item.{IsScalarHeader, IsContainerHeader, IsScalar, Item}
use Rattle.msgpack_bytes.specs.Parts.{Row}
use Rattle.msgpack_bytes.specs.Run.{Whole, Opens, front_of, behind_first, content, number, many, none, flat, run}
use Rattle.msgpack_bytes.proofs.Reading.{number_front, number_take}
use Rattle.msgpack_bytes.proofs.Fronts.{content_there, content_whole, content_never_opens, counted_there, counted_opens, counted_never_whole}
use Rattle.msgpack_bytes.proofs.Runs.{Answer, run_steady, after_ok, behind_ok}
use Rattle.msgpack_bytes.proofs.Headers.{scalar_sizes, sizes_scalar, container_counts, counts_container}
use Rattle.msgpack_bytes.proofs.Contained.{has_row, row_has}

-- a length and the content that it states are a whole front
scalar_whole : (s : Shape) (kind : Kind) (length_bytes body : List ℕ) → Sizes s kind (length body) length_bytes → behind_first s (length_bytes ++ body) ≡ Whole []
scalar_whole (Fixed k n) kind length_bytes body e =
    let none_there : length length_bytes ≡ 0 = ap length e.1 in
    let l = length-append length_bytes body in
    content_there n (length_bytes ++ body) (omega arith) ∙ ap Whole (drop_all n (length_bytes ++ body) (omega arith))
scalar_whole (Sized k width extra) kind length_bytes body e =
    let n : number width (length_bytes ++ body) ≡ big_endian length_bytes = rw (← e.1) (number_front length_bytes body) in
    let l = length-append length_bytes body in
    rw n (content_there (width + big_endian length_bytes + extra) (length_bytes ++ body) (omega arith) ∙ ap Whole (drop_all (width + big_endian length_bytes + extra) (length_bytes ++ body) (omega arith)))
scalar_whole (Holds container n) kind length_bytes body e = absurd e
scalar_whole (Counted container width) kind length_bytes body e = absurd e
scalar_whole Never kind length_bytes body e = absurd e

-- a count opens so many items
container_opens : (s : Shape) (container : Container) (n : ℕ) (count_bytes inner : List ℕ) → Counts s container n count_bytes → behind_first s (count_bytes ++ inner) ≡ Opens (items_in container n) inner
container_opens (Fixed k m) container n count_bytes inner e = absurd e
container_opens (Sized k width extra) container n count_bytes inner e = absurd e
container_opens (Holds c count) container n count_bytes inner e = rw (e.0, e.1, e.2) refl
container_opens (Counted c width) container n count_bytes inner e =
    let l = length-append count_bytes inner in
    let m : number width (count_bytes ++ inner) ≡ big_endian count_bytes = rw (← e.1) (number_front count_bytes inner) in
    rw (m, e.0, e.2) (counted_there width (items_in container (big_endian count_bytes)) (count_bytes ++ inner) (omega arith) ∙ rw (drop_at count_bytes inner width e.1) refl)
container_opens Never container n count_bytes inner e = absurd e

pub flat_whole : (s : Shape) (bytes rest : List ℕ) → behind_first s bytes ≡ Whole rest → flat s bytes ≡ Ok rest
flat_whole (Fixed kind n) bytes rest e = rw e refl
flat_whole (Sized kind width extra) bytes rest e = rw e refl
flat_whole (Holds container n) bytes rest e = absurd (cc)
flat_whole (Counted container width) bytes rest e = absurd (counted_never_whole width (items_in container (number width bytes)) bytes rest e)
flat_whole Never bytes rest e = absurd (cc)

-- the front of a whole scalar, and of a container
pub front_scalar : (bytes : List ℕ) → IsScalar bytes → front_of bytes ≡ Whole []
unfolding front_of
front_scalar bytes s =
    elim s.spelled.header as (λ header. IsScalarHeader s.kind (length s.content) header → bytes ≡ header ++ s.content → front_of bytes ≡ Whole []) [
      | [] ↦ λ h e. absurd h
      | first ∷ length_bytes ↦ λ h e. rw e (scalar_whole (shape_of first) s.kind length_bytes s.content (scalar_sizes s.kind (length s.content) first length_bytes h))
    ] s.spelled.sized s.spelled.whole

pub front_container : (container : Container) (n : ℕ) (header inner : List ℕ) → IsContainerHeader container n header → front_of (header ++ inner) ≡ Opens (items_in container n) inner
unfolding front_of
front_container container n [] inner h = absurd h
front_container container n (first ∷ count_bytes) inner h = container_opens (shape_of first) container n count_bytes inner (container_counts container n first count_bytes h)

-- parts that are read are passed over
pub row_passed : (part : List ℕ → Type 0) (f : List ℕ → Answer) → ((bytes more : List ℕ) → part bytes → f (bytes ++ more) ≡ Ok more) → (k j : ℕ) (bytes more : List ℕ) → Row part k bytes → many f (k + j) (bytes ++ more) ≡ many f j more
row_passed part f is zero j bytes more r = rw (r, zero-add j) refl
row_passed part f is (suc k) j bytes more r =
    let e = is r.0 (r.1 ++ more) r.2 in
    rw (r.4, append_assoc r.0 r.1 more, suc-add k j, e) (row_passed part f is k j r.1 more r.3)

run_scalar : (depth : ℕ) (bytes : List ℕ) → front_of bytes ≡ Whole [] → run depth bytes ≡ Ok []
unfolding run front_of
run_scalar zero [] e = absurd (cc)
run_scalar zero (first ∷ bytes) e = flat_whole (shape_of first) bytes [] e
run_scalar (suc depth) bytes e = rw e refl

pub run_container : (depth m : ℕ) (bytes inner : List ℕ) → front_of bytes ≡ Opens m inner → run (suc depth) bytes ≡ many (run depth) m inner
unfolding run
run_container depth m bytes inner e = rw e refl

-- an item is read, whatever follows
pub item_read : (depth : ℕ) (bytes more : List ℕ) → Item depth bytes → run depth (bytes ++ more) ≡ Ok more
unfolding Item
item_read zero bytes more s = (run_steady 0).stays bytes [] more (run_scalar 0 bytes (front_scalar bytes s))
item_read (suc depth) bytes more (inl s) = (run_steady (suc depth)).stays bytes [] more (run_scalar (suc depth) bytes (front_scalar bytes s))
item_read (suc depth) bytes more (inr t) =
    let c = has_row (Item depth) bytes t in
    let n : ℕ = items_in c.container c.n in
    let f = front_container c.container c.n c.header (c.inner ++ more) c.counted in
    let r = row_passed (Item depth) (run depth) (item_read depth) n 0 c.inner more c.parts in
    let same : n + 0 ≡ n = omega arith in
    rw (c.whole, append_assoc c.header c.inner more) (run_container depth n (c.header ++ (c.inner ++ more)) (c.inner ++ more) f ∙ rw same at r)

pub glue : (x a b c r : List ℕ) → x ≡ a ++ b → b ≡ c ++ r → x ≡ (a ++ c) ++ r
glue x a b c r e f = rw (e, f) (sym (append_assoc a c r))

-- a whole front is a length and a content
pub record Scalar (s : Shape) (bytes rest : List ℕ) : Type 0 where
  pub kind : Kind
  pub length_bytes : List ℕ
  pub body : List ℕ
  pub sized : Sizes s kind (length body) length_bytes
  pub whole : bytes ≡ (length_bytes ++ body) ++ rest

pub whole_scalar : (s : Shape) (bytes rest : List ℕ) → behind_first s bytes ≡ Whole rest → Scalar s bytes rest
whole_scalar (Fixed kind n) bytes rest e =
    let h = content_whole n bytes rest e in
    let l = length-take-le n bytes h.0 in
    record { kind = kind; length_bytes = []; body = take n bytes; sized = (refl, refl, l); whole = rw h.1 (sym (take-append-drop n bytes)) }
whole_scalar (Sized kind width extra) bytes rest e =
    let n : ℕ = number width bytes + extra in
    let all : ℕ = width + number width bytes + extra in
    let h = content_whole all bytes rest e in
    let there : width ≤ length bytes = omega arith in
    let l = length-take-le width bytes there in
    let d = length-drop width bytes in
    let m = length-take-le n (drop width bytes) (omega arith) in
    let same : all ≡ width + n = omega arith in
    record {
      kind = kind;
      length_bytes = take width bytes;
      body = take n (drop width bytes);
      sized = (refl, l, m ∙ ap (λ (x : ℕ). x + extra) (sym (number_take width bytes there)));
      whole = rw (h.1, ← take-add width n bytes, same) (sym (take-append-drop (width + n) bytes));
    }
whole_scalar (Holds container n) bytes rest e = absurd (cc)
whole_scalar (Counted container width) bytes rest e = absurd (counted_never_whole width (items_in container (number width bytes)) bytes rest e)
whole_scalar Never bytes rest e = absurd (cc)

flat_scalar : (s : Shape) (bytes rest : List ℕ) → flat s bytes ≡ Ok rest → Scalar s bytes rest
flat_scalar (Fixed kind n) bytes rest e =
    elim (behind_ok none (content n bytes) rest e) [ inl h ↦ whole_scalar (Fixed kind n) bytes rest h | inr t ↦ absurd (content_never_opens n t.0 bytes t.1 t.2) ]
flat_scalar (Sized kind width extra) bytes rest e =
    let all : ℕ = width + number width bytes + extra in
    elim (behind_ok none (content all bytes) rest e) [ inl h ↦ whole_scalar (Sized kind width extra) bytes rest h | inr t ↦ absurd (content_never_opens all t.0 bytes t.1 t.2) ]
flat_scalar (Holds container n) bytes rest e = absurd (cc)
flat_scalar (Counted container width) bytes rest e = absurd (cc)
flat_scalar Never bytes rest e = absurd (cc)

-- what opens is a count
pub record Header (s : Shape) (m : ℕ) (bytes inner : List ℕ) : Type 0 where
  pub container : Container
  pub n : ℕ
  pub count_bytes : List ℕ
  pub counts : Counts s container n count_bytes
  pub items : m ≡ items_in container n
  pub whole : bytes ≡ count_bytes ++ inner

pub opens_header : (s : Shape) (m : ℕ) (bytes inner : List ℕ) → behind_first s bytes ≡ Opens m inner → Header s m bytes inner
opens_header (Fixed kind n) m bytes inner e = absurd (content_never_opens n m bytes inner e)
opens_header (Sized kind width extra) m bytes inner e = absurd (content_never_opens (width + number width bytes + extra) m bytes inner e)
opens_header (Holds container n) m bytes inner e = record { container = container; n = n; count_bytes = []; counts = (refl, refl, refl); items = cc; whole = cc }
opens_header (Counted container width) m bytes inner e =
    let h = counted_opens width (items_in container (number width bytes)) m bytes inner e in
    record {
      container = container;
      n = number width bytes;
      count_bytes = take width bytes;
      counts = (refl, length-take-le width bytes h.0, sym (number_take width bytes h.0));
      items = h.1;
      whole = rw h.2 (sym (take-append-drop width bytes));
    }
opens_header Never m bytes inner e = absurd (cc)

-- some front of the bytes is such, and this is behind it
pub record Before (part : List ℕ → Type 0) (bytes rest : List ℕ) : Type 0 where
  pub front : List ℕ
  pub is : part front
  pub whole : bytes ≡ front ++ rest

pub rows_before : (part : List ℕ → Type 0) (f : List ℕ → Answer) → ((bytes rest : List ℕ) → f bytes ≡ Ok rest → Before part bytes rest) → (n : ℕ) (bytes rest : List ℕ) → many f n bytes ≡ Ok rest → Before (Row part n) bytes rest
rows_before part f is zero bytes rest e = record { front = []; is = refl; whole = cc }
rows_before part f is (suc n) bytes rest e =
    let t = after_ok (f bytes) n (many f n) rest e in
    let a = is bytes t.0 t.1 in
    let b = rows_before part f is n t.0 rest t.2 in
    record { front = a.front ++ b.front; is = (a.front, b.front, a.is, b.is, refl); whole = glue bytes a.front t.0 b.front rest a.whole b.whole }

pub scalar_before : (first : ℕ) (bytes rest : List ℕ) → Scalar (shape_of first) bytes rest → Before IsScalar (first ∷ bytes) rest
scalar_before first bytes rest s = record {
  front = first ∷ (s.length_bytes ++ s.body);
  is = record { kind = s.kind; content = s.body; spelled = record { header = first ∷ s.length_bytes; sized = sizes_scalar s.kind (length s.body) first s.length_bytes s.sized; whole = refl } };
  whole = ap (λ (xs : List ℕ). first ∷ xs) s.whole;
}

-- what is read is an item
pub read_item : (depth : ℕ) (bytes rest : List ℕ) → run depth bytes ≡ Ok rest → Before (Item depth) bytes rest
unfolding run front_of Item
read_item zero [] rest e = absurd (cc)
read_item zero (first ∷ bytes) rest e = scalar_before first bytes rest (flat_scalar (shape_of first) bytes rest e)
read_item (suc depth) [] rest e = absurd (cc)
read_item (suc depth) (first ∷ bytes) rest e =
    elim (behind_ok (many (run depth)) (behind_first (shape_of first) bytes) rest e) [
      | inl h ↦ (let s = scalar_before first bytes rest (whole_scalar (shape_of first) bytes rest h) in record { front = s.front; is = inl s.is; whole = s.whole })
      | inr t ↦ (let h = opens_header (shape_of first) t.0 bytes t.1 t.2 in
          let m : ℕ = items_in h.container h.n in
          let inside : many (run depth) m t.1 ≡ Ok rest = rw h.items at t.3 in
          let r = rows_before (Item depth) (run depth) (read_item depth) m t.1 rest inside in
          record {
            front = first ∷ (h.count_bytes ++ r.front);
            is = inr (row_has (Item depth) (first ∷ (h.count_bytes ++ r.front)) (record { container = h.container; n = h.n; header = first ∷ h.count_bytes; inner = r.front; counted = counts_container h.container h.n first h.count_bytes h.counts; parts = r.is; whole = refl }));
            whole = ap (λ (xs : List ℕ). first ∷ xs) (glue bytes h.count_bytes t.1 r.front rest h.whole r.whole);
          })
    ]

-- exactly the items are read whole
pub item_all : (depth : ℕ) (bytes : List ℕ) → Item depth bytes → run depth bytes ≡ Ok []
item_all depth bytes i = let e = item_read depth bytes [] i in rw append-nil at e

pub all_item : (depth : ℕ) (bytes : List ℕ) → run depth bytes ≡ Ok [] → Item depth bytes
all_item depth bytes e = let f = read_item depth bytes [] e in let q : bytes ≡ f.front = f.whole ∙ append-nil f.front in rw q f.is
