-- What would mend bytes at which reading stops: where a container may not stand, a greater depth;
-- where no item begins, nothing.
use Rattle.std.proofs.Common.{ℕ, zero, suc, ◌≡◌, ◌+◌, ◌-◌, ◌<◌, Bool, true, false, nat_lt, List, [], ◌∷◌, ◌++◌, replicate, refl, ap, sym, subst, ◌∙◌, Ok, Err, arith, ◌⊎◌, inl, inr, append-nil, append_assoc, drop, if◌then◌else◌}
use Rattle.msgpack_bytes.specs.declared.format.Shape.{Shape}
use Rattle.msgpack_bytes.specs.declared.format.Shape.TheVariants.{Fixed, Sized, Holds, Counted, Never}
use Rattle.msgpack_bytes.specs.Format.{items_in, shape_of}
use Rattle.msgpack_bytes.specs.Item.{Item, deepest}
use Rattle.msgpack_bytes.specs.Parts.{Row}
use Rattle.msgpack_bytes.specs.Laws.{IsItemDeeper}
use Rattle.msgpack_bytes.specs.Run.{Opens, Lacks, Missing, Reserved, front_of, behind_first, number, many, behind, run}
use Rattle.msgpack_bytes.specs.Stops.{Awaits, IsOfContainer, EndsReserved, EndsTooDeep}
use Rattle.msgpack_bytes.proofs.Runs.{Answer, run_nought, run_steady, many_noughts}
use Rattle.msgpack_bytes.proofs.Items.{front_container, row_passed, run_container, item_read, item_all, all_item}
use Rattle.msgpack_bytes.proofs.Contained.{has_row, row_has}
use Rattle.msgpack_bytes.proofs.Stack.{run_empty}
use Rattle.msgpack_bytes.proofs.Faults.{reserved_stops}

row_deeper : (part other : List ℕ → Type 0) → ((bytes : List ℕ) → part bytes → other bytes) → (n : ℕ) (bytes : List ℕ) → Row part n bytes → Row other n bytes
row_deeper part other f zero bytes r = r
row_deeper part other f (suc n) bytes r = (r.0, r.1, f r.0 r.2, row_deeper part other f n r.1 r.3, r.4)

pub deeper : IsItemDeeper
unfolding Item
deeper zero bytes i = inl i
deeper (suc depth) bytes (inl s) = inl s
deeper (suc depth) bytes (inr t) =
    let c = has_row (Item depth) bytes t in
    inr (row_has (Item (suc depth)) bytes (record {
      container = c.container;
      n = c.n;
      header = c.header;
      inner = c.inner;
      counted = c.counted;
      parts = row_deeper (Item depth) (Item (suc depth)) (deeper depth) (items_in c.container c.n) c.inner c.parts;
      whole = c.whole;
    }))

-- an item of which some bytes are read may stand in a list that nests deeper
awaits_deeper : (left depth : ℕ) (front : List ℕ) → Awaits left depth front → Awaits (suc left) (suc depth) front
unfolding Awaits
awaits_deeper left zero front (e, l) = inl (e, ap suc l)
awaits_deeper left (suc depth) front (inl (e, l)) = inl (e, ap suc l)
awaits_deeper left (suc depth) front (inr w) =
    inr (record {
      container = w.container;
      n = w.n;
      k = w.k;
      header = w.header;
      before = w.before;
      behind = w.behind;
      counted = w.counted;
      fewer = w.fewer;
      parts = row_deeper (Item depth) (Item (suc depth)) (deeper depth) w.k w.before w.parts;
      next = awaits_deeper left depth w.behind w.next;
      whole = w.whole;
    })

deeper_by : (k depth : ℕ) (bytes : List ℕ) → Item depth bytes → Item (depth + k) bytes
deeper_by zero depth bytes i = subst (λ (n : ℕ). Item n bytes) (omega arith) i
deeper_by (suc k) depth bytes i = subst (λ (n : ℕ). Item n bytes) (omega arith) (deeper (depth + k) bytes (deeper_by k depth bytes i))

awaits_by : (k left depth : ℕ) (front : List ℕ) → Awaits left depth front → Awaits (left + k) (depth + k) front
awaits_by zero left depth front w =
    subst (λ (m : ℕ). Awaits m (depth + 0) front) (omega arith) (subst (λ (n : ℕ). Awaits left n front) (omega arith) w)
awaits_by (suc k) left depth front w =
    subst (λ (m : ℕ). Awaits m (depth + suc k) front) (omega arith)
    (subst (λ (n : ℕ). Awaits (suc (left + k)) n front) (omega arith) (awaits_deeper (left + k) (depth + k) front (awaits_by k left depth front w)))

-- where no item begins, no depth helps
pub reserved_never : (bytes : List ℕ) → EndsReserved bytes → (depth : ℕ) (more : List ℕ) → Item depth (bytes ++ more) → ⊥
reserved_never bytes e depth more i =
    let stops = reserved_stops (e.left + depth) (deepest + depth) e.front more (awaits_by depth e.left deepest e.front e.begins) in
    let same : bytes ++ more ≡ e.front ++ 0xc1 ∷ more = rw e.whole (append_assoc e.front (0xc1 ∷ []) more) in
    let deep : depth + deepest ≡ deepest + depth = omega arith in
    let all : run (deepest + depth) (bytes ++ more) ≡ Ok [] = rw deep at (item_all (depth + deepest) (bytes ++ more) (deeper_by deepest depth (bytes ++ more) i)) in
    let f : Err Reserved ≡ Ok [] = sym stops ∙ rw same at all in
    cc

-- where the next item is whole, zeros make all of it whole
awaits_whole : (left depth : ℕ) (front item : List ℕ) → Awaits left depth front → Item left item → (more : List ℕ) × Item depth (front ++ (item ++ more))
unfolding Awaits
awaits_whole left zero front item (e, l) i = ([], rw (e, append-nil item, ← l) i)
awaits_whole left (suc depth) front item (inl (e, l)) i = ([], rw (e, append-nil item, ← l) i)
awaits_whole left (suc depth) front item (inr w) i =
    let all : ℕ = items_in w.container w.n in
    let few = w.fewer in
    let j : ℕ = all - suc w.k in
    let split : all ≡ w.k + suc j = omega arith in
    let t = awaits_whole left depth w.behind item w.next i in
    let more : List ℕ = t.0 ++ replicate j 0 in
    let rest : List ℕ = w.behind ++ (item ++ more) in
    let opened = run_container depth all (w.header ++ (w.before ++ rest)) (w.before ++ rest) (front_container w.container w.n w.header (w.before ++ rest) w.counted) in
    let skipped = row_passed (Item depth) (run depth) (item_read depth) w.k (suc j) w.before rest w.parts in
    let there : (w.behind ++ (item ++ t.0)) ++ replicate j 0 ≡ rest = append_assoc w.behind (item ++ t.0) (replicate j 0) ∙ ap (λ (xs : List ℕ). w.behind ++ xs) (append_assoc item t.0 (replicate j 0)) in
    let read : run depth rest ≡ Ok (replicate j 0) = rw there at (item_read depth (w.behind ++ (item ++ t.0)) (replicate j 0) t.1) in
    let zeros : many (run depth) (suc j) rest ≡ Ok [] = rw read (many_noughts (run depth) (run_steady depth) (run_nought depth) j) in
    let parts : many (run depth) all (w.before ++ rest) ≡ Ok [] = subst (λ (m : ℕ). many (run depth) m (w.before ++ rest) ≡ Ok []) (sym split) (skipped ∙ zeros) in
    let same : front ++ (item ++ more) ≡ w.header ++ (w.before ++ rest) = rw w.whole (append_assoc w.header (w.before ++ w.behind) (item ++ more) ∙ ap (λ (xs : List ℕ). w.header ++ xs) (append_assoc w.before w.behind (item ++ more))) in
    (more, rw same (all_item (suc depth) (w.header ++ (w.before ++ rest)) (opened ∙ parts)))

-- the reading is done, or bytes are missing
abbrev GoesOn : Answer → Type 0
GoesOn r = (r ≡ Ok []) ⊎ ((n : ℕ) × (r ≡ Err (Missing n)))

many_none : (n : ℕ) → GoesOn (many (run 0) n [])
many_none zero = inl refl
many_none (suc n) = inr (1 + n, rw (run_empty 0) refl)

counted_none : (b : Bool) (k n width : ℕ) → GoesOn (behind (many (run 0)) (if b then Lacks k else Opens n (drop width [])))
counted_none true k n width = inr (k, refl)
counted_none false k n zero = many_none n
counted_none false k n (suc width) = many_none n

container_goes_on : (s : Shape) → IsOfContainer s → GoesOn (behind (many (run 0)) (behind_first s []))
container_goes_on (Fixed kind n) h = absurd h
container_goes_on (Sized kind width extra) h = absurd h
container_goes_on (Holds container n) h = many_none (items_in container n)
container_goes_on (Counted container width) h = counted_none (nat_lt 0 width) (width - 0 + items_in container (number width [])) (items_in container (number width [])) width
container_goes_on Never h = absurd h

-- the first byte of a container goes on to one
container_whole : (byte : ℕ) → IsOfContainer (shape_of byte) → (more : List ℕ) × Item 1 (byte ∷ more)
unfolding run front_of
container_whole byte h =
    elim (container_goes_on (shape_of byte) h) [
      | inl e ↦ ([], all_item 1 (byte ∷ []) e)
      | inr t ↦ (replicate t.0 0, all_item 1 (byte ∷ replicate t.0 0) ((run_steady 1).zeros (byte ∷ []) t.0 t.1))
    ]

-- where a container may not stand, one more level helps
pub deep_deeper : (bytes : List ℕ) → EndsTooDeep bytes → (depth : ℕ) × (more : List ℕ) × Item depth (bytes ++ more)
deep_deeper bytes e =
    let c = container_whole e.byte e.container in
    let t = awaits_whole 1 (suc deepest) e.front (e.byte ∷ c.0) (awaits_deeper 0 deepest e.front e.begins) c.1 in
    let same : bytes ++ (c.0 ++ t.0) ≡ e.front ++ (e.byte ∷ c.0 ++ t.0) = rw e.whole (append_assoc e.front (e.byte ∷ []) (c.0 ++ t.0)) in
    (suc deepest, c.0 ++ t.0, rw same t.1)
