-- Lists that begin with the same bytes.
use Rattle.std.proofs.Common.{ℕ, zero, suc, ◌≡◌, ◌≢◌, ◌+◌, ◌-◌, ◌<◌, ◌≤◌, Bool, true, false, List, [], ◌∷◌, ◌++◌, length, slice_index, slice_set, refl, ap, sym, ◌∙◌, arith, ◌⊎◌, inl, inr}
use Rattle.std.proofs.lemmas.List.{get_or-set_other, get_or_append_left, get_or-append_right}
use Rattle.msgpack_bytes.specs.declared.format.Shape.{Shape}
use Rattle.msgpack_bytes.specs.declared.format.Shape.TheVariants.{Fixed, Sized, Holds, Counted, Never}
use Rattle.msgpack_bytes.specs.declared.format.ScanStep.{ScanStep}
use Rattle.msgpack_bytes.specs.Format.{items_in, shape_of}
use Rattle.msgpack_bytes.specs.Run.{number}
use Rattle.msgpack_bytes.specs.declared.format.ScanStep.TheVariants as step
use Rattle.msgpack_bytes.specs.declared.format.Told.{Told}
use Rattle.msgpack_bytes.specs.declared.format.Told.TheVariants as told
use Rattle.msgpack_bytes.specs.Steps.{BeginsSame, told_by, told_of, step_by, step_of, step_told}
use Rattle.msgpack_bytes.proofs.Slices.{less_false}
use Rattle.msgpack_bytes.proofs.Rows.{sized_most, counted_most}
use Rattle.msgpack_bytes.proofs.Numbers.{number_suc}
use Rattle.msgpack_bytes.proofs.Stack.{set_here, set_elsewhere}

-- ---- steps

number_same : (w : ℕ) (xs ys : List ℕ) → w ≤ 4 → BeginsSame 4 xs ys → number w xs ≡ number w ys
number_same zero xs ys h s = refl
number_same (suc w) xs ys h s = rw (number_suc w xs, number_suc w ys, number_same w xs ys (omega arith) s, s w (omega arith)) refl

told_same : (first : ℕ) (s : Shape) (xs ys : List ℕ) → shape_of first ≡ s → BeginsSame 4 xs ys → told_by s xs ≡ told_by s ys
told_same first (Fixed kind n) xs ys q b = refl
told_same first (Sized kind width extra) xs ys q b = ap (λ (n : ℕ). told.Scalar (1 + width + (n + extra))) (number_same width xs ys (sized_most first width extra kind q) b)
told_same first (Holds container n) xs ys q b = refl
told_same first (Counted container width) xs ys q b = ap (λ (n : ℕ). told.Container (items_in container n) width) (number_same width xs ys (counted_most first width container q) b)
told_same first Never xs ys q b = refl

step_by_told : (may_open : Bool) (s : Shape) (left : ℕ) (rest : List ℕ) → step_told may_open (told_by s rest) left ≡ step_by may_open s left rest
step_by_told may_open (Fixed kind n) left rest = refl
step_by_told may_open (Sized kind width extra) left rest = refl
step_by_told true (Holds container n) left rest = rw (less_false left 0 (omega arith)) refl
step_by_told false (Holds container n) left rest = refl
step_by_told may_open (Counted container width) left rest = refl
step_by_told may_open Never left rest = refl

-- the step of bytes, from what their first ones tell
pub step_as_told : (may_open : Bool) (bytes : List ℕ) (left : ℕ) (known : Told) (answer : ScanStep) → 0 < length bytes → left ≡ length bytes - 1 → known ≡ told_of bytes → answer ≡ step_told may_open known left → answer ≡ step_of may_open bytes
step_as_told may_open [] left known answer some size k e = absurd (omega arith)
step_as_told may_open (first ∷ rest) left known answer some size k e =
    let same : left ≡ length rest = omega arith in
    e ∙ ap (λ (t : Told). step_told may_open t left) k ∙ step_by_told may_open (shape_of first) left rest ∙ ap (λ (n : ℕ). step_by may_open (shape_of first) n rest) same

-- the step of bytes of which the first five are known
pub step_of_front : (may_open : Bool) (front all : List ℕ) (len : ℕ) (known : Told) (answer : ScanStep) → 0 < length front → 0 < len → length all ≡ len → BeginsSame 5 front all
    → known ≡ told_of front → answer ≡ step_told may_open known (len - 1) → answer ≡ step_of may_open all
step_of_front may_open [] all len known answer five some size b k e = absurd (omega arith)
step_of_front may_open (byte ∷ bytes) [] len known answer five some size b k e = absurd (omega arith)
step_of_front may_open (byte ∷ bytes) (first ∷ rest) len known answer five some size b k e =
    let here : byte ≡ first = b 0 (omega arith) in
    let tail : BeginsSame 4 bytes rest = λ n h. b (suc n) (omega arith) in
    let same : told_of (byte ∷ bytes) ≡ told_of (first ∷ rest) = ap (λ (x : ℕ). told_by (shape_of x) bytes) here ∙ told_same first (shape_of first) bytes rest refl tail in
    step_as_told may_open (first ∷ rest) (len - 1) known answer (omega arith) (omega arith) (k ∙ same) e

-- a scalar that is there
pub told_whole : (may_open : Bool) (bytes : List ℕ) (size : ℕ) → 0 < length bytes → told.Scalar size ≡ told_of bytes → size ≤ length bytes → step.Whole size ≡ step_of may_open bytes
told_whole may_open bytes size some k there =
    step_as_told may_open bytes (length bytes - 1) (told.Scalar size) (step.Whole size) some refl k (rw (less_false (length bytes - 1 + 1) size (omega arith)) refl)

-- a header that is there
pub told_opens : (may_open : Bool) (bytes : List ℕ) (items width : ℕ) → may_open ≡ true → 0 < length bytes → told.Container items width ≡ told_of bytes → 1 + width ≤ length bytes → step.Opens items (1 + width) ≡ step_of may_open bytes
told_opens may_open bytes items width may some k there =
    step_as_told may_open bytes (length bytes - 1) (told.Container items width) (step.Opens items (1 + width)) some refl k (rw (may, less_false (length bytes - 1) width (omega arith)) refl)

-- ---- filling

le_cases : (j k : ℕ) → j < k + 1 → (j < k) ⊎ (j ≡ k)
le_cases zero zero h = inr refl
le_cases zero (suc k) h = inl (omega arith)
le_cases (suc j) zero h = absurd (omega arith)
le_cases (suc j) (suc k) h = elim (le_cases j k (omega arith)) [
  | inl less ↦ inl (omega arith)
  | inr same ↦ inr (ap suc same)
]

-- the bytes in front of k are those of the whole, and the others those that came
abbrev pub Filled : ℕ → List ℕ → List ℕ → List ℕ → Type 0
Filled k front part follow =
    ((j : ℕ) → j < 5 → j < k → slice_index front j ≡ slice_index (part ++ follow) j) × ((j : ℕ) → j < 5 → k ≤ j → slice_index front j ≡ slice_index part j)

pub filled_none : (front part follow : List ℕ) (came : ℕ) → length part ≡ came → BeginsSame 5 front part → Filled came front part follow
filled_none front part follow came e b = (λ j h k. b j h ∙ sym (get_or_append_left part follow 0 j (omega arith)), λ j h k. b j h)

pub filled_more : (front part follow : List ℕ) (came k byte : ℕ) → length front ≡ 5 → length part ≡ came → came ≤ k → k < 5 → byte ≡ slice_index follow (k - came) → Filled k front part follow
    → Filled (k + 1) (slice_set front k byte) part follow
filled_more front part follow came k byte size e le lt is f = (
  λ j h below. elim (le_cases j k (omega arith)) [
    | inl less ↦ set_elsewhere front k j byte less ∙ f.0 j h less
    | inr same ↦ ap (slice_index (slice_set front k byte)) same ∙ set_here front k byte (omega arith) ∙ is ∙ sym (get_or-append_right part follow came k 0 e le) ∙ ap (slice_index (part ++ follow)) (sym same)
  ],
  λ j h above. get_or-set_other front k j byte 0 (let ne : j ≢ k = omega arith in ne) ∙ f.1 j h (omega arith),
)

pub filled_all : (front part follow : List ℕ) (k : ℕ) → 5 ≤ k → Filled k front part follow → BeginsSame 5 front (part ++ follow)
filled_all front part follow k all f = λ j h. f.0 j h (omega arith)
