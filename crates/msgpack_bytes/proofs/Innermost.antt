-- What holds at each turn of a scan that has the innermost level's count at hand.
use Rattle.std.proofs.Common.{ℕ, ◌≡◌, ◌+◌, ◌-◌, ◌<◌, ◌≤◌, Bool, true, nat_le, List, ◌∷◌, length, drop, slice_index, slice_set, replicate, refl, ap, sym, subst, ◌∙◌, arith, length-set}
use Rattle.std.proofs.lemmas.List.{set-set, set-get_or}
use Rattle.msgpack_bytes.specs.declared.answers.Scan.TheVariants as scan
use Rattle.msgpack_bytes.specs.declared.format.ScanStep.TheVariants as step
use Rattle.msgpack_bytes.specs.Item.{longest}
use Rattle.msgpack_bytes.specs.Answers.{IsScanned}
use Rattle.msgpack_bytes.specs.Pieces.{State}
use Rattle.msgpack_bytes.specs.Steps.{step_of}
use Rattle.msgpack_bytes.proofs.Stack.{owed_below, finish_below, set_here}
use Rattle.msgpack_bytes.proofs.StepFacts.{told}
use Rattle.msgpack_bytes.proofs.States.{state_start, state_end, state_pop, state_whole, state_opens}

-- ---- the sizes of steps

pub whole_some : (may_open : Bool) (rest : List ℕ) (size : ℕ) → step.Whole size ≡ step_of may_open rest → (0 < size) × (size ≤ length rest)
whole_some may_open rest size e = let w = told may_open rest (step.Whole size) e in (w.some, w.there)

pub opens_some : (may_open : Bool) (rest : List ℕ) (items size : ℕ) → step.Opens items size ≡ step_of may_open rest → (0 < size) × (size ≤ length rest)
opens_some may_open rest items size e = let w = told may_open rest (step.Opens items size) e in (w.0.some, w.0.there)

-- ---- the first item

abbrev pub first_missing : List ℕ
first_missing = 1 ∷ replicate 64 0

abbrev pub Begun : List ℕ → ℕ → Type 0
Begun bytes at = State bytes at at first_missing 1 16777215

pub begun : (bytes : List ℕ) (at : ℕ) → at ≤ length bytes → Begun bytes at
begun bytes at h = state_start bytes at first_missing h refl refl

pub first_whole : (bytes : List ℕ) (size : ℕ) → step.Whole size ≡ step_of true bytes → size ≤ longest → IsScanned bytes 0 (scan.End size)
first_whole bytes size e fits =
    let here : 0 + size ≡ size = omega arith in
    subst (λ (n : ℕ). IsScanned bytes 0 (scan.End n)) here
    (state_end (state_pop (state_whole (begun bytes 0 (omega arith)) (omega arith) (omega arith) size e (omega arith)) (omega arith) refl) refl)

-- ---- the items of a container

-- with the innermost count in its place, the stack says what is missing
pub record Keeps (bytes : List ℕ) (at i : ℕ) (missing : List ℕ) (left levels room : ℕ) : Type 0 where
  pub size : length missing ≡ 65
  pub state : State bytes at i (slice_set missing (levels - 1) left) levels room

-- what lies above the levels doesn't matter
state_below : {bytes : List ℕ} {at i : ℕ} (missing : List ℕ) (j n : ℕ) {levels room : ℕ} → levels ≤ j → length missing ≡ 65 → State bytes at i (slice_set missing j n) levels room → State bytes at i missing levels room
state_below {bytes} {at} {i} missing j n {levels} {room} h size s =
    let spent = s.spent in
    let same = owed_below missing j n levels h in
    record {
      here = λ depth e. (λ back. s.here depth e back ∙ finish_below missing j n depth levels back h);
      size = size;
      few = s.few;
      above = s.above;
      within = s.within;
      spent = omega arith;
    }

pub keeps_first : (bytes missing : List ℕ) (at items size : ℕ) → at ≤ length bytes → missing ≡ replicate 65 0 → step.Opens items size ≡ step_of true (drop at bytes) → size + items ≤ longest
    → Keeps bytes at (at + size) missing items 2 (longest - (size + items))
keeps_first bytes missing at items size h none e fits =
    let some = opens_some true (drop at bytes) items size e in
    let room : 16777215 - (size - 1 + items) ≡ longest - (size + items) = omega arith in
    let s = state_opens (begun bytes at h) (omega arith) (omega arith) items size e (omega arith) in
    record {
      size = ap length none;
      state = subst (λ (m : List ℕ). State bytes at (at + size) (slice_set m 1 items) 2 (longest - (size + items))) (sym none) (subst (λ (r : ℕ). State bytes at (at + size) (slice_set (replicate 65 0) 1 items) 2 r) room s);
    }

pub keeps_end : {bytes : List ℕ} {at i : ℕ} {missing : List ℕ} {left levels room : ℕ} → Keeps bytes at i missing left levels room → levels ≡ 0 → IsScanned bytes at (scan.End i)
keeps_end k none = state_end k.state none

popped : {bytes : List ℕ} {at i : ℕ} {missing : List ℕ} {left levels room : ℕ} → Keeps bytes at i missing left levels room → left ≡ 0 → 0 < levels → State bytes at i (slice_set missing (levels - 1) left) (levels - 1) room
popped {bytes} {at} {i} {missing} {left} {levels} {room} k none some =
    let size = k.size in
    let few = k.state.few in
    let top = set_here missing (levels - 1) left (omega arith) in
    state_pop k.state some (top ∙ none)

pub keeps_last : {bytes : List ℕ} {at i : ℕ} {missing : List ℕ} {left levels room : ℕ} → Keeps bytes at i missing left levels room → left ≡ 0 → levels ≡ 1 → Keeps bytes at i missing left (levels - 1) room
keeps_last {bytes} {at} {i} {missing} {left} {levels} {room} k none one =
    let same : levels - 1 ≡ levels - 1 - 1 = omega arith in
    record { size = k.size; state = subst (λ (j : ℕ). State bytes at i (slice_set missing j left) (levels - 1) room) same (popped k none (omega arith)) }

pub keeps_pop : {bytes : List ℕ} {at i : ℕ} {missing : List ℕ} {left levels room : ℕ} → Keeps bytes at i missing left levels room → left ≡ 0 → 0 < levels
    → Keeps bytes at i missing (slice_index missing (levels - 1 - 1)) (levels - 1) room
keeps_pop {bytes} {at} {i} {missing} {left} {levels} {room} k none some =
    let s = state_below missing (levels - 1) left (omega arith) k.size (popped k none some) in
    record { size = k.size; state = subst (λ (m : List ℕ). State bytes at i m (levels - 1) room) (sym (set-get_or missing (levels - 1 - 1) 0)) s }

module _ {bytes : List ℕ} {at i : ℕ} {missing : List ℕ} {left levels room : ℕ} (k : Keeps bytes at i missing left levels room) (some : 0 < levels) (top : 0 < left) where
  abbrev stack : List ℕ
  stack = slice_set missing (levels - 1) left

  here : slice_index stack (levels - 1) ≡ left
  here = let size = k.size in let few = k.state.few in set_here missing (levels - 1) left (omega arith)

  some_here : 0 < slice_index stack (levels - 1)
  some_here = let e = here in omega arith

  one_less : slice_set stack (levels - 1) (slice_index stack (levels - 1) - 1) ≡ slice_set missing (levels - 1) (left - 1)
  one_less = ap (λ (n : ℕ). slice_set stack (levels - 1) (n - 1)) here ∙ set-set missing (levels - 1) left (left - 1)

  pub keeps_whole : (size : ℕ) → step.Whole size ≡ step_of (nat_le levels 64) (drop i bytes) → size - 1 ≤ room → Keeps bytes at (i + size) missing (left - 1) levels (room - (size - 1))
  keeps_whole size e fits = record {
    size = k.size;
    state = subst (λ (m : List ℕ). State bytes at (i + size) m levels (room - (size - 1))) one_less (state_whole k.state some some_here size e fits);
  }

  pub keeps_opens : (items size : ℕ) → step.Opens items size ≡ step_of (nat_le levels 64) (drop i bytes) → size - 1 + items ≤ room
      → Keeps bytes at (i + size) (slice_set missing (levels - 1) (left - 1)) items (levels + 1) (room - (size - 1 + items))
  keeps_opens items size e fits =
      let long = k.size in
      let level : levels ≡ levels + 1 - 1 = omega arith in
      let s = state_opens k.state some some_here items size e fits in
      record {
        size = omega (arith, length-set {A = ℕ});
        state = subst (λ (j : ℕ). State bytes at (i + size) (slice_set (slice_set missing (levels - 1) (left - 1)) j items) (levels + 1) (room - (size - 1 + items))) level
            (subst (λ (m : List ℕ). State bytes at (i + size) (slice_set m levels items) (levels + 1) (room - (size - 1 + items))) one_less s);
      }
