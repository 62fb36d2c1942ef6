-- The laws of items.
use Rattle.std.proofs.Common.{ℕ, zero, suc, ◌≡◌, ◌<◌, ◌≤◌, true, false, nat_lt, List, [], ◌∷◌, ◌++◌, length, replicate, refl, ap, sym, ◌∙◌, Ok, Err, arith, inl, inr, append-nil, append_assoc, length-append}
use Rattle.std.proofs.lemmas.List.{length-replicate}
use Rattle.msgpack_bytes.specs.Format.{items_in}
use Rattle.msgpack_bytes.specs.Item.{Item, longest, deepest, IsItemWithin, IsOpen}
use Rattle.msgpack_bytes.specs.Parts.{Row}
use Rattle.msgpack_bytes.specs.Laws.{IsPrefixFree, HasOneFront, HasParts, HasPartsWithin, IsItemDeeper, IsOpenForZeros, IsLongOnly, IsItemRead, IsOpenRead, IsReservedRead, IsDeepRead}
use Rattle.msgpack_bytes.specs.Run.{Missing, Reserved, Deep, run}
use Rattle.msgpack_bytes.proofs.Slices.{less, not_less}
use Rattle.msgpack_bytes.proofs.Stack.{run_empty}
use Rattle.msgpack_bytes.proofs.Runs.{run_steady}
use Rattle.msgpack_bytes.proofs.Items.{front_container, run_container, item_read, item_all, all_item, read_item, rows_before}
use Rattle.msgpack_bytes.proofs.Opened.{open_missing, missing_open, last_of}
use Rattle.msgpack_bytes.proofs.Mended.{deeper}
use Rattle.msgpack_bytes.proofs.Faults.{reserved_stops, deep_stops, reserved_fault, deep_fault}
use Rattle.msgpack_bytes.proofs.Scanned.{one_end, reserved_last, deep_last}

-- a list that goes on by nothing
goes_on_none : (xs more : List ℕ) → xs ≡ xs ++ more → more ≡ []
goes_on_none [] more e = sym e
goes_on_none (x ∷ xs) more e = goes_on_none xs more (cc)

same_front : (a b x y : List ℕ) → a ++ x ≡ b ++ y → x ≡ y → a ≡ b
same_front [] [] x y e f = refl
same_front [] (q ∷ b) x y e f = absurd (let l = ap length e in let m = ap length f in let n = length-append b y in omega arith)
same_front (p ∷ a) [] x y e f = absurd (let l = ap length e in let m = ap length f in let n = length-append a x in omega arith)
same_front (p ∷ a) (q ∷ b) x y e f =
    let h : p ≡ q = cc in
    let t = same_front a b x y (cc) f in
    cc

pub one_front : HasOneFront
one_front a b x y i j e = let f = one_end a b x y i j e in (same_front a b x y e f, f)

pub prefix_free : IsPrefixFree
prefix_free item more i j = goes_on_none item more (one_front item (item ++ more) more [] i j (sym (append-nil (item ++ more)))).0

pub parts : HasParts
parts depth n container header inner h i =
    let m : ℕ = items_in container n in
    let all = item_all (suc depth) (header ++ inner) i in
    let opened = run_container depth m (header ++ inner) inner (front_container container n header inner h) in
    let r = rows_before (Item depth) (run depth) (read_item depth) m inner [] (sym opened ∙ all) in
    let same : inner ≡ r.front = r.whole ∙ append-nil r.front in
    rw same r.is

row_within : (n : ℕ) (bytes : List ℕ) → length bytes ≤ longest → Row (Item 63) n bytes → Row IsItemWithin n bytes
row_within zero bytes h r = r
row_within (suc n) bytes h r =
    let l = length-append r.0 r.1 in
    let m = ap length r.4 in
    (r.0, r.1, record { item = deeper 63 r.0 r.2; short = omega arith }, row_within n r.1 (omega arith) r.3, r.4)

pub parts_within : HasPartsWithin
parts_within n container header inner h i =
    let short = i.short in
    let l = length-append header inner in
    row_within (items_in container n) inner (omega arith) (parts 63 n container header inner h i.item)

pub open_for_zeros : IsOpenForZeros
open_for_zeros bytes o =
    let w = open_missing bytes o in
    let z = (run_steady deepest).zeros bytes w.n w.missing in
    let l = length-replicate {A = ℕ} w.n 0 in
    let k = length-append bytes (replicate w.n 0) in
    let within = w.least in (
      w.n,
      record { item = all_item deepest (bytes ++ replicate w.n 0) z; short = omega arith },
      λ more t. (let a = (run_steady deepest).least bytes more [] w.n w.missing (item_all deepest (bytes ++ more) t.item) in omega arith),
    )

pub items_read : IsItemRead
items_read depth bytes rest = (λ e. (let b = read_item depth bytes rest e in (b.front, b.is, b.whole)), λ t. rw t.2 (item_read depth t.0 rest t.1))

pub open_read : IsOpenRead
open_read bytes = (λ o. (let w = open_missing bytes o in (w.n, w.missing, w.least)), λ t. missing_open bytes (record { n = t.0; missing = t.1; least = t.2 }))

pub reserved_read : IsReservedRead
reserved_read bytes = (
  λ e. (let t = reserved_fault deepest bytes e in (
    t.front ++ 0xc1 ∷ [],
    t.rest,
    record { left = t.left; front = t.front; begins = t.begins; whole = refl },
    (let same = t.is in let w : bytes ≡ t.front ++ 0xc1 ∷ t.rest = rw same at t.whole in w ∙ sym (append_assoc t.front (0xc1 ∷ []) t.rest)),
  )),
  λ t. (let r = reserved_stops t.2.left deepest t.2.front t.1 t.2.begins in let same : bytes ≡ t.2.front ++ 0xc1 ∷ t.1 = t.3 ∙ rw t.2.whole (append_assoc t.2.front (0xc1 ∷ []) t.1) in rw same r),
)

pub deep_read : IsDeepRead
deep_read bytes = (
  λ e. (let t = deep_fault deepest bytes e in (
    t.front ++ t.byte ∷ [],
    t.rest,
    record { front = t.front; byte = t.byte; begins = rw t.is.0 at t.begins; container = t.is.1; whole = refl },
    t.whole ∙ sym (append_assoc t.front (t.byte ∷ []) t.rest),
  )),
  λ t. (let r = deep_stops deepest t.2.byte t.2.front t.1 t.2.begins t.2.container in let same : bytes ≡ t.2.front ++ t.2.byte ∷ t.1 = t.3 ∙ rw t.2.whole (append_assoc t.2.front (t.2.byte ∷ []) t.1) in rw same r),
)

pub long_only : IsLongOnly
long_only bytes f = (
  f.ends,
  λ more i. elim (nat_lt longest (length (f.shortest ++ more))) as (λ b. nat_lt longest (length (f.shortest ++ more)) ≡ b → longest < length (f.shortest ++ more)) [
    | true ↦ λ t. less longest (length (f.shortest ++ more)) t
    | false ↦ λ t. absurd (f.closed more (record { item = i; short = not_less longest (length (f.shortest ++ more)) t }))
  ] refl,
)
