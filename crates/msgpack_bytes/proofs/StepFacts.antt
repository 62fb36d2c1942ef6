-- What each step of a scan says of the bytes.
use Rattle.std.proofs.Common.{ℕ, zero, suc, ◌≡◌, ◌+◌, ◌-◌, ◌<◌, ◌≤◌, Bool, true, false, cond, nat_lt, List, [], ◌∷◌, ◌++◌, length, take, drop, refl, ap, sym, ◌∙◌, Ok, Err, arith, length-append, length-drop}
use Rattle.std.proofs.lemmas.List.{take_at}
use Rattle.msgpack_bytes.specs.declared.format.Shape.{Shape}
use Rattle.msgpack_bytes.specs.declared.format.Shape.TheVariants.{Fixed, Sized, Holds, Counted, Never}
use Rattle.msgpack_bytes.specs.declared.format.ScanStep.{ScanStep}
use Rattle.msgpack_bytes.specs.declared.format.ScanStep.TheVariants as step
use Rattle.msgpack_bytes.specs.Format.{items_in, shape_of}
use Rattle.msgpack_bytes.specs.Stops.{IsOfContainer}
use Rattle.msgpack_bytes.proofs.Headers.{counts_container}
use Rattle.msgpack_bytes.specs.Run.{Whole, Opens, Lacks, Missing, front_of, behind_first, content, counted, number, none, behind, flat, run}
use Rattle.msgpack_bytes.specs.Steps.{scalar_step, container_step, step_by, step_of}
use Rattle.msgpack_bytes.proofs.Slices.{less, not_less, less_true}
use Rattle.msgpack_bytes.proofs.Fronts.{content_there, counted_there, whole_stays}
use Rattle.msgpack_bytes.proofs.Items.{flat_whole, front_scalar, front_container, whole_scalar, scalar_before, opens_header}

-- what a step says: of all continuations, where it goes on
pub record IsWhole (size : ℕ) (bytes : List ℕ) : Type 0 where
  pub some : 0 < size
  pub there : size ≤ length bytes
  pub front : front_of bytes ≡ Whole (drop size bytes)

pub record IsOpening (size items : ℕ) (bytes : List ℕ) : Type 0 where
  pub some : 0 < size
  pub there : size ≤ length bytes
  pub front : front_of bytes ≡ Opens items (drop size bytes)

pub record IsLacking (may_open : Bool) (size : ℕ) (bytes : List ℕ) : Type 0 where
  pub n : ℕ
  pub all : size ≡ length bytes + n
  pub front : front_of bytes ≡ Lacks n
  pub flat : may_open ≡ false → run 0 bytes ≡ Err (Missing n)

pub record BeginsContainer (may_open : Bool) (bytes : List ℕ) : Type 0 where
  pub first : ℕ
  pub rest : List ℕ
  pub whole : bytes ≡ first ∷ rest
  pub container : IsOfContainer (shape_of first)
  pub refused : may_open ≡ false

pub record BeginsWrong (bytes : List ℕ) : Type 0 where
  pub first : ℕ
  pub rest : List ℕ
  pub whole : bytes ≡ first ∷ rest
  pub never : shape_of first ≡ Never

abbrev pub Says : Bool → ScanStep → List ℕ → Type 0
Says may_open (step.Whole size) bytes = IsWhole size bytes
Says may_open (step.Opens items size) bytes = IsOpening size items bytes × (may_open ≡ true)
Says may_open (step.Lacks size) bytes = IsLacking may_open size bytes
Says may_open step.Deep bytes = BeginsContainer may_open bytes
Says may_open step.Wrong bytes = BeginsWrong bytes

dropped : (first n : ℕ) (rest : List ℕ) → drop n rest ≡ drop (1 + n) (first ∷ rest)
dropped first n rest = (let same : 1 + n ≡ suc n = omega arith in rw same refl)

-- a scalar of one byte and so much more
scalar_says : (may_open : Bool) (first n size : ℕ) (rest : List ℕ) → size ≡ 1 + n → behind_first (shape_of first) rest ≡ content n rest → flat (shape_of first) rest ≡ behind none (content n rest) → Says may_open (scalar_step size (length rest)) (first ∷ rest)
unfolding front_of run
scalar_says may_open first n size rest e f g =
    elim (nat_lt (length rest + 1) size) as (λ b. nat_lt (length rest + 1) size ≡ b → Says may_open (cond b (step.Lacks size) (step.Whole size)) (first ∷ rest)) [
      | true ↦ λ t. (let few = less (length rest + 1) size t in
          let lacks : content n rest ≡ Lacks (n - length rest) = rw (less_true (length rest) n (omega arith)) refl in
          record { n = n - length rest; all = omega arith; front = f ∙ lacks; flat = λ _. (g ∙ rw lacks refl) })
      | false ↦ λ t. (let enough = not_less (length rest + 1) size t in
          let there : n ≤ length rest = omega arith in
          let behind_it : drop n rest ≡ drop size (first ∷ rest) = rw e (dropped first n rest) in
          record { some = omega arith; there = omega arith; front = f ∙ content_there n rest there ∙ ap Whole behind_it })
    ] refl

container_says : (first width items : ℕ) (rest : List ℕ) → behind_first (shape_of first) rest ≡ counted width items rest → Says true (container_step width items (length rest)) (first ∷ rest)
unfolding front_of
container_says first width items rest f =
    elim (nat_lt (length rest) width) as (λ b. nat_lt (length rest) width ≡ b → Says true (cond b (step.Lacks (1 + width + items)) (step.Opens items (1 + width))) (first ∷ rest)) [
      | true ↦ λ t. (let few = less (length rest) width t in
          record { n = width - length rest + items; all = omega arith; front = f ∙ rw t refl; flat = λ no. absurd (cc) })
      | false ↦ λ t. (let enough = not_less (length rest) width t in
          (record { some = omega arith; there = omega arith; front = f ∙ counted_there width items rest enough ∙ ap (Opens items) (dropped first width rest) }, refl))
    ] refl

by_shape : (may_open : Bool) (first : ℕ) (rest : List ℕ) (s : Shape) → shape_of first ≡ s → Says may_open (step_by may_open s (length rest) rest) (first ∷ rest)
unfolding front_of
by_shape may_open first rest (Fixed kind n) q = scalar_says may_open first n (1 + n) rest refl (rw q refl) (rw q refl)
by_shape may_open first rest (Sized kind width extra) q =
    scalar_says may_open first (width + number width rest + extra) (1 + width + (number width rest + extra)) rest (omega arith) (rw q refl) (rw q refl)
by_shape true first rest (Holds container n) q = (record { some = omega arith; there = omega arith; front = rw q refl }, refl)
by_shape false first rest (Holds container n) q = record { first = first; rest = rest; whole = refl; container = rw q tt; refused = refl }
by_shape true first rest (Counted container width) q = container_says first width (items_in container (number width rest)) rest (rw q refl)
by_shape false first rest (Counted container width) q = record { first = first; rest = rest; whole = refl; container = rw q tt; refused = refl }
by_shape may_open first rest Never q = record { first = first; rest = rest; whole = refl; never = q }

pub step_says : (may_open : Bool) (bytes : List ℕ) → Says may_open (step_of may_open bytes) bytes
unfolding front_of run
step_says may_open [] = record { n = 1; all = refl; front = refl; flat = λ _. refl }
step_says may_open (first ∷ rest) = by_shape may_open first rest (shape_of first) refl

-- a front, by what is behind it
front_is : (bytes front : List ℕ) (size : ℕ) → size ≤ length bytes → bytes ≡ front ++ drop size bytes → take size bytes ≡ front
front_is bytes front size h e =
    let l = length-append front (drop size bytes) in
    let d = length-drop size bytes in
    let all = ap length e in
    let n : length front ≡ size = omega arith in
    ap (take size) e ∙ take_at front (drop size bytes) size n

pub front_grows : (bytes rest more : List ℕ) → front_of bytes ≡ Whole rest → front_of (bytes ++ more) ≡ Whole (rest ++ more)
unfolding front_of
front_grows [] rest more e = absurd (cc)
front_grows (first ∷ bytes) rest more e = whole_stays (shape_of first) bytes more rest e

-- a scalar is whole, whatever follows it
pub whole_front : (bytes back : List ℕ) (size : ℕ) → IsWhole size bytes → front_of (take size bytes ++ back) ≡ Whole back
unfolding front_of
whole_front [] back size w = absurd (let a = w.some in let b = w.there in omega arith)
whole_front (first ∷ rest) back size w =
    let s = scalar_before first rest (drop size (first ∷ rest)) (whole_scalar (shape_of first) rest (drop size (first ∷ rest)) w.front) in
    let same = front_is (first ∷ rest) s.front size w.there s.whole in
    rw same (front_grows s.front [] back (front_scalar s.front s.is))

-- a header opens its items, whatever follows it
pub opening_front : (bytes back : List ℕ) (size items : ℕ) → IsOpening size items bytes → front_of (take size bytes ++ back) ≡ Opens items back
unfolding front_of
opening_front [] back size items w = absurd (let a = w.some in let b = w.there in omega arith)
opening_front (first ∷ rest) back size items w =
    let h = opens_header (shape_of first) items rest (drop size (first ∷ rest)) w.front in
    let same = front_is (first ∷ rest) (first ∷ h.count_bytes) size w.there (ap (λ (xs : List ℕ). first ∷ xs) h.whole) in
    rw same (front_container h.container h.n (first ∷ h.count_bytes) back (counts_container h.container h.n first h.count_bytes h.counts) ∙ ap (λ (m : ℕ). Opens m back) (sym h.items))

-- how these are read
pub run_whole : (depth : ℕ) (bytes rest : List ℕ) → front_of bytes ≡ Whole rest → run depth bytes ≡ Ok rest
unfolding run front_of
run_whole zero [] rest e = absurd (cc)
run_whole zero (first ∷ bytes) rest e = flat_whole (shape_of first) bytes rest e
run_whole (suc depth) bytes rest e = rw e refl

pub run_lacks : (depth n : ℕ) (bytes : List ℕ) → front_of bytes ≡ Lacks n → run (suc depth) bytes ≡ Err (Missing n)
unfolding run
run_lacks depth n bytes e = rw e refl

-- the same of the step that was computed
pub told : (may_open : Bool) (bytes : List ℕ) (s : ScanStep) → s ≡ step_of may_open bytes → Says may_open s bytes
told may_open bytes s e = rw e (step_says may_open bytes)
