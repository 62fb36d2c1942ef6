-- What the parts of `scan` compute, for the proofs of this crate.
use Rattle.std.specs.Prelude.{ℕ, ◌≡◌, ◌+◌, ◌^◌, ◌<◌, ◌≤◌, List, [], ◌∷◌, length, drop, slice_index, Bool, nat_lt, if◌then◌else◌}
use Rattle.msgpack_bytes.specs.declared.format.Shape.{Shape}
use Rattle.msgpack_bytes.specs.declared.format.Shape.TheVariants.{Fixed, Sized, Holds, Counted, Never}
use Rattle.msgpack_bytes.specs.declared.format.ScanStep.{ScanStep}
use Rattle.msgpack_bytes.specs.declared.format.ScanStep.TheVariants as step
use Rattle.msgpack_bytes.specs.declared.format.Told.{Told}
use Rattle.msgpack_bytes.specs.declared.format.Told.TheVariants as told
use Rattle.msgpack_bytes.specs.Format.{items_in, shape_of}
use Rattle.msgpack_bytes.specs.Run.{number}

-- a scalar of so many bytes, of which one and `left` more are there
abbrev pub scalar_step : ℕ → ℕ → ScanStep
scalar_step size left = if nat_lt (left + 1) size then step.Lacks size else step.Whole size

-- a container of so many items, whose count has so many bytes, of which `left` are there
abbrev pub container_step : ℕ → ℕ → ℕ → ScanStep
container_step width items left = if nat_lt left width then step.Lacks (1 + width + items)
    else step.Opens items (1 + width)

-- behind a first byte of this shape, where `left` bytes are there, the first of which are these
abbrev pub step_by : Bool → Shape → ℕ → List ℕ → ScanStep
step_by may_open (Fixed kind n) left rest = scalar_step (1 + n) left
step_by may_open (Sized kind width extra) left rest =
    scalar_step (1 + width + (number width rest + extra)) left
step_by may_open (Holds container n) left rest = if may_open
    then step.Opens (items_in container n) 1 else step.Deep
step_by may_open (Counted container width) left rest = if may_open
    then container_step width (items_in container (number width rest)) left else step.Deep
step_by may_open Never left rest = step.Wrong

-- at the front of the bytes, where a container may or may not stand
abbrev pub step_of : Bool → List ℕ → ScanStep
step_of may_open [] = step.Lacks 1
step_of may_open (first ∷ rest) = step_by may_open (shape_of first) (length rest) rest

-- what the bytes tell behind a first byte of this shape
abbrev pub told_by : Shape → List ℕ → Told
told_by (Fixed kind n) rest = told.Scalar (1 + n)
told_by (Sized kind width extra) rest = told.Scalar (1 + width + (number width rest + extra))
told_by (Holds container n) rest = told.Container (items_in container n) 0
told_by (Counted container width) rest =
    told.Container (items_in container (number width rest)) width
told_by Never rest = told.Nothing

-- what an item's first bytes tell
abbrev pub told_of : List ℕ → Told
told_of [] = told.Nothing
told_of (first ∷ rest) = told_by (shape_of first) rest

-- the step behind a first byte that tells this, where `left` more are there
abbrev pub step_told : Bool → Told → ℕ → ScanStep
step_told may_open (told.Scalar size) left = scalar_step size left
step_told may_open (told.Container items width) left = if may_open
    then container_step width items left else step.Deep
step_told may_open told.Nothing left = step.Wrong

-- what keeps these numbers small
abbrev pub IsSmallTold : Told → Type 0
IsSmallTold (told.Scalar size) = size < 2 ^ 33
IsSmallTold (told.Container items width) = (items < 2 ^ 33) × (width ≤ 4)
IsSmallTold told.Nothing = Unit {0}

-- a scalar with no content
abbrev pub IsSingle : Shape → Type 0
IsSingle (Fixed kind n) = n ≡ 0
IsSingle (Sized kind width extra) = ⊥
IsSingle (Holds container n) = ⊥
IsSingle (Counted container width) = ⊥
IsSingle Never = ⊥

-- what keeps a step's numbers small
abbrev pub IsSmall : ScanStep → Type 0
IsSmall (step.Whole size) = size < 2 ^ 33
IsSmall (step.Opens items size) = (items < 2 ^ 33) × (size ≤ 5)
IsSmall (step.Lacks size) = size < 2 ^ 34
IsSmall step.Deep = Unit {0}
IsSmall step.Wrong = Unit {0}

-- the first n bytes are the same, where those that are missing count as 0
abbrev pub BeginsSame : ℕ → List ℕ → List ℕ → Type 0
BeginsSame n xs ys = (k : ℕ) → k < n → slice_index xs k ≡ slice_index ys k

-- these bytes stand where the next item begins: `came` of them in earlier pieces, of which `front`
-- has the first, and the others in the piece
pub record IsNext (front : List ℕ) (came : ℕ) (piece : List ℕ) (at : ℕ)
    (all : List ℕ) : Type 0 where
  pub fresh : came ≡ 0 → all ≡ drop at piece
  pub size : 0 < came → length all ≡ came + length piece
  pub begins : 0 < came → BeginsSame 5 front all
