-- What holds at each turn of a scan.
use Rattle.std.proofs.Common.{ℕ, suc, ◌≡◌, ◌+◌, ◌-◌, ◌<◌, ◌≤◌, Bool, true, false, nat_le, List, ◌++◌, length, drop, slice_range, slice_index, slice_set, refl, ◌∙◌, arith, length-set, length-drop}
use Rattle.msgpack_bytes.specs.declared.answers.Scan.{Scan}
use Rattle.msgpack_bytes.specs.declared.answers.Scan.TheVariants.{End, Need, Bad}
use Rattle.msgpack_bytes.specs.declared.answers.MsgFault.TheVariants as fault
use Rattle.msgpack_bytes.specs.declared.format.ScanStep.TheVariants as step
use Rattle.msgpack_bytes.specs.Item.{longest}
use Rattle.msgpack_bytes.specs.Answers.{IsScanned}
use Rattle.msgpack_bytes.proofs.Slices.{slice_rest, slice_on, slice_length, at_most, not_at_most}
use Rattle.msgpack_bytes.proofs.Opened.{missing_open}
use Rattle.msgpack_bytes.proofs.Scanned.{one_answer}
use Rattle.msgpack_bytes.specs.Pieces.{owed, State}
use Rattle.msgpack_bytes.proofs.Stack.{finish_start, at_pop, owed_at_pop, owed_at_item}
use Rattle.msgpack_bytes.specs.Steps.{step_of}
use Rattle.msgpack_bytes.proofs.StepFacts.{told}
use Rattle.msgpack_bytes.proofs.Turns.{ended, turn_wrong, turn_deep, turn_lacks, turn_lacks_long, turn_whole, turn_whole_long, turn_opens, turn_opens_long, owed_opens}

pub state_start : (bytes : List ℕ) (at : ℕ) (missing : List ℕ) → at ≤ length bytes → length missing ≡ 65 → slice_index missing 0 ≡ 1 → State bytes at at missing 1 16777215
state_start bytes at missing h size one =
    let none : at - at ≡ 0 = omega arith in
    record {
      here = λ depth e. (λ back. (let top : depth ≡ 64 = omega arith in rw (none, top) (finish_start missing 64 back one)));
      size = size;
      few = omega arith;
      above = omega arith;
      within = h;
      spent = omega arith;
    }

pub state_end : {bytes : List ℕ} {at i : ℕ} {missing : List ℕ} {levels room : ℕ} → State bytes at i missing levels room → levels ≡ 0 → IsScanned bytes at (End i)
state_end {bytes} {at} {i} {missing} {levels} {room} s none =
    let size = slice_length bytes at i s.above s.within in
    let spent = s.spent in
    let owing : owed missing levels ≡ 0 = rw none refl in
    (s.above, s.within, ended (slice_range bytes at i) missing 65 levels (s.here 65 (omega arith)) owing (omega arith))

pub state_pop : {bytes : List ℕ} {at i : ℕ} {missing : List ℕ} {levels room : ℕ} → State bytes at i missing levels room → 0 < levels → slice_index missing (levels - 1) ≡ 0 → State bytes at i missing (levels - 1) room
state_pop {bytes} {at} {i} {missing} {levels} {room} s some none =
    let few = s.few in
    let spent = s.spent in
    let same = owed_at_pop missing levels (levels - 1) (omega arith) none in
    record {
      here = λ depth e. (λ back. s.here (depth - 1) (omega arith) back ∙ at_pop missing (depth - 1) depth levels (levels - 1) back (omega arith) (omega arith) none);
      size = s.size;
      few = omega arith;
      above = s.above;
      within = s.within;
      spent = omega arith;
    }

module _ {bytes : List ℕ} {at i : ℕ} {missing : List ℕ} {levels room : ℕ} (s : State bytes at i missing levels room) (some : 0 < levels) (top : 0 < slice_index missing (levels - 1)) where
  abbrev front : List ℕ
  front = slice_range bytes at i

  abbrev rest : List ℕ
  rest = drop i bytes

  abbrev depth : ℕ
  depth = 65 - levels

  abbrev may_open : Bool
  may_open = nat_le levels 64

  all : drop at bytes ≡ front ++ rest
  all = slice_rest bytes at i s.above

  innermost : levels ≡ suc (levels - 1)
  innermost = omega arith

  level : depth + levels ≡ 65
  level = let few = s.few in omega arith

  spent : room + length front + owed missing levels ≡ longest
  spent = let size = slice_length bytes at i s.above s.within in let all_spent = s.spent in omega arith

  bottom : may_open ≡ false → depth ≡ 0
  bottom e = let past = not_at_most levels 64 e in omega arith

  higher : may_open ≡ true → 0 < depth
  higher e = let few = at_most levels 64 e in omega arith

  pub state_wrong : step.Wrong ≡ step_of may_open rest → IsScanned bytes at (Bad fault.Reserved)
  state_wrong e =
      let w = told may_open rest step.Wrong e in rw all (turn_wrong front rest missing depth levels room (levels - 1) (s.here depth level) s.size innermost level top spent w)

  pub state_deep : step.Deep ≡ step_of may_open rest → IsScanned bytes at (Bad fault.TooDeep)
  state_deep e =
      let w = told may_open rest step.Deep e in rw all (turn_deep front rest missing depth levels room (levels - 1) (s.here depth level) s.size innermost level top spent may_open bottom w)

  pub state_lacks : (size : ℕ) → step.Lacks size ≡ step_of may_open rest → size - 1 ≤ room → IsScanned bytes at Need
  state_lacks size e fits =
      let w = told may_open rest (step.Lacks size) e in
      rw all (missing_open (front ++ rest) (turn_lacks front rest missing depth levels room (levels - 1) (s.here depth level) s.size innermost level top spent may_open size bottom higher w fits))

  pub state_lacks_long : (size : ℕ) → step.Lacks size ≡ step_of may_open rest → room < size - 1 → IsScanned bytes at (Bad fault.TooLong)
  state_lacks_long size e past =
      let w = told may_open rest (step.Lacks size) e in
      rw all (turn_lacks_long front rest missing depth levels room (levels - 1) (s.here depth level) s.size innermost level top spent may_open size bottom higher w past)

  pub state_whole_long : (size : ℕ) → step.Whole size ≡ step_of may_open rest → room < size - 1 → IsScanned bytes at (Bad fault.TooLong)
  state_whole_long size e past =
      let w = told may_open rest (step.Whole size) e in
      rw all (turn_whole_long front rest missing depth levels room (levels - 1) (s.here depth level) s.size innermost level top spent size w past)

  pub state_opens_long : (items size : ℕ) → step.Opens items size ≡ step_of may_open rest → room < size - 1 + items → IsScanned bytes at (Bad fault.TooLong)
  state_opens_long items size e past =
      let w = told may_open rest (step.Opens items size) e in
      let lt = higher w.1 in
      rw all (turn_opens_long front rest missing depth levels room (levels - 1) (s.here depth level) s.size innermost level top spent (depth - 1) size items (omega arith) w.0 past)

  abbrev left : List ℕ
  left = slice_set missing (levels - 1) (slice_index missing (levels - 1) - 1)

  left_size : length left ≡ 65
  left_size = let size = s.size in omega (arith, length-set {A = ℕ})

  one_less : owed missing levels ≡ suc (owed left levels)
  one_less = let size = s.size in let few = s.few in owed_at_item missing levels (levels - 1) innermost (omega arith) top

  dropped : length rest ≡ length bytes - i
  dropped = length-drop i bytes

  pub state_whole : (size : ℕ) → step.Whole size ≡ step_of may_open rest → size - 1 ≤ room → State bytes at (i + size) left levels (room - (size - 1))
  state_whole size e fits =
      let w = told may_open rest (step.Whole size) e in
      let there = w.there in
      let positive = w.some in
      let above = s.above in
      let within = s.within in
      let all_spent = s.spent in
      let less = one_less in
      let d = dropped in
      record {
        here = λ own e. (
            let same : own ≡ depth = omega arith in
            rw (slice_on bytes at i size s.above, same) (turn_whole front rest missing depth levels room (levels - 1) (s.here depth level) s.size innermost level top spent size w)
            );
        size = left_size;
        few = s.few;
        above = omega arith;
        within = omega arith;
        spent = omega arith;
      }

  pub state_opens : (items size : ℕ) → step.Opens items size ≡ step_of may_open rest → size - 1 + items ≤ room → State bytes at (i + size) (slice_set left levels items) (levels + 1) (room - (size - 1 + items))
  state_opens items size e fits =
      let w = told may_open rest (step.Opens items size) e in
      let lt = higher w.1 in
      let there = w.0.there in
      let positive = w.0.some in
      let above = s.above in
      let within = s.within in
      let few = s.few in
      let all_spent = s.spent in
      let less = one_less in
      let d = dropped in
      let has = left_size in
      let more = owed_opens front rest missing depth levels room (levels - 1) (s.here depth level) s.size innermost level top spent (depth - 1) items (omega arith) in
      record {
        here = λ own e. (
            let same : own ≡ depth - 1 = omega arith in
            rw (slice_on bytes at i size s.above, same) (turn_opens front rest missing depth levels room (levels - 1) (s.here depth level) s.size innermost level top spent (depth - 1) size items (omega arith) w.0)
            );
        size = omega (arith, length-set {A = ℕ});
        few = omega arith;
        above = omega arith;
        within = omega arith;
        spent = omega arith;
      }

-- an answer that is right, and the only one that is
abbrev pub Exact : List ℕ → ℕ → Scan → Type 0
Exact bytes at answer = record { right : IsScanned bytes at answer; only : (other : Scan) → IsScanned bytes at other → other ≡ answer }

pub exact : (bytes : List ℕ) (at : ℕ) (answer : Scan) → IsScanned bytes at answer → Exact bytes at answer
exact bytes at answer r = record { right = r; only = λ other o. one_answer bytes at other answer o r }
