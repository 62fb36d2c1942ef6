-- What holds at each turn of a scan that knows where the innermost level has to end.
use Rattle.std.proofs.Common.{ℕ, suc, ◌≡◌, ◌+◌, ◌-◌, ◌<◌, ◌≤◌, true, nat_le, List, [], ◌∷◌, ◌++◌, length, drop, slice_index, slice_set, replicate, refl, sym, subst, ◌∙◌, arith, length-append, length-drop}
use Rattle.std.proofs.lemmas.List.{set-append_left, get_or_append_left}
use Rattle.msgpack_bytes.specs.declared.answers.Scan.TheVariants as scan
use Rattle.msgpack_bytes.specs.declared.format.ScanStep.TheVariants as step
use Rattle.msgpack_bytes.specs.Item.{longest}
use Rattle.msgpack_bytes.specs.Answers.{IsScanned}
use Rattle.msgpack_bytes.specs.Pieces.{owed}
use Rattle.msgpack_bytes.specs.declared.format.Told.TheVariants as told
use Rattle.msgpack_bytes.specs.Steps.{step_of, told_of}
use Rattle.msgpack_bytes.proofs.Slices.{at_most, at_most_true}
use Rattle.msgpack_bytes.proofs.Alike.{told_whole, told_opens}
use Rattle.msgpack_bytes.proofs.Stack.{set_here}
use Rattle.msgpack_bytes.proofs.StepFacts.{told}
use Rattle.msgpack_bytes.proofs.Innermost.{Keeps, whole_some, opens_some, keeps_first, keeps_end, keeps_last, keeps_pop, keeps_whole, keeps_opens}

-- the counts, and one for a level with none inside it; each item that is missing takes one byte or
-- more
pub record Reaches (bytes : List ℕ) (i : ℕ) (missing : List ℕ) (left levels limit : ℕ) : Type 0 where
  pub keeps : Keeps bytes 0 i (missing ++ 0 ∷ []) left levels (limit - (i + left))
  pub fits : i + left ≤ limit
  pub short : limit ≤ longest
  pub some : 0 < levels

owed_top : (xs : List ℕ) (j k : ℕ) → j ≡ suc k → owed xs j ≡ slice_index xs k + owed xs k
owed_top xs j k p = rw p refl

-- what the innermost level lacks is within the limit on the whole
within_all : {bytes : List ℕ} {at i : ℕ} {missing : List ℕ} {left levels room : ℕ} → Keeps bytes at i missing left levels room → 0 < levels → room + (i - at) + left ≤ longest
within_all {bytes} {at} {i} {missing} {left} {levels} {room} k some =
    let size = k.size in
    let few = k.state.few in
    let spent = k.state.spent in
    let here = set_here missing (levels - 1) left (omega arith) in
    let top = owed_top (slice_set missing (levels - 1) left) levels (levels - 1) (omega arith) in
    omega arith

pub reach_first : (bytes missing : List ℕ) (items size : ℕ) → missing ≡ replicate 64 0 → step.Opens items size ≡ step_of true bytes → size + items ≤ longest → Reaches bytes size missing items 2 longest
reach_first bytes missing items size none e fits =
    let all : missing ++ 0 ∷ [] ≡ replicate 65 0 = rw none refl in
    let here : 0 + size ≡ size = omega arith in
    record {
      keeps = subst (λ (n : ℕ). Keeps bytes 0 n (missing ++ 0 ∷ []) items 2 (longest - (size + items))) here (keeps_first bytes (missing ++ 0 ∷ []) 0 items size (omega arith) all e fits);
      fits = fits;
      short = omega arith;
      some = omega arith;
    }

-- an item's end, counted from where it begins, and from the first of all bytes
pub end_in_all : (bytes : List ℕ) (at end : ℕ) → at ≤ length bytes → IsScanned (drop at bytes) 0 (scan.End end) → IsScanned bytes at (scan.End (at + end))
end_in_all bytes at end h s =
    let (first, within, item) = s in
    let n : at + end - at ≡ end - 0 = omega arith in
    let all = length-drop at bytes in
    (omega arith, omega arith, rw n item)

module _ {bytes : List ℕ} {i : ℕ} {missing : List ℕ} {left levels limit : ℕ} (r : Reaches bytes i missing left levels limit) where
  pub reach_end : left ≡ 0 → levels - 1 ≡ 0 → IsScanned bytes 0 (scan.End i)
  reach_end none last = let some = r.some in keeps_end (keeps_last r.keeps none (omega arith)) last

  pub reach_pop : left ≡ 0 → (outer : ℕ) → outer ≡ slice_index missing (levels - 1 - 1) → 0 < levels - 1 → Reaches bytes i missing outer (levels - 1) (limit + outer)
  reach_pop none outer e some =
      let size = r.keeps.size in
      let few = r.keeps.state.few in
      let all = length-append missing (0 ∷ []) in
      let fits = r.fits in
      let same : slice_index (missing ++ 0 ∷ []) (levels - 1 - 1) ≡ outer = get_or_append_left missing (0 ∷ []) 0 (levels - 1 - 1) (omega arith) ∙ sym e in
      let room : limit - (i + left) ≡ limit + outer - (i + outer) = omega arith in
      let k : Keeps bytes 0 i (missing ++ 0 ∷ []) outer (levels - 1) (limit + outer - (i + outer)) =
      subst (λ (n : ℕ). Keeps bytes 0 i (missing ++ 0 ∷ []) outer (levels - 1) n) room
      (subst (λ (n : ℕ). Keeps bytes 0 i (missing ++ 0 ∷ []) n (levels - 1) (limit - (i + left))) same (keeps_pop r.keeps none r.some)) in
      let most = within_all k some in
      record { keeps = k; fits = omega arith; short = omega arith; some = some }

  module _ (top : 0 < left) where
    pub reach_whole : (size : ℕ) → step.Whole size ≡ step_of (nat_le levels 64) (drop i bytes) → i + size + (left - 1) ≤ limit → Reaches bytes (i + size) missing (left - 1) levels limit
    reach_whole size e fits =
        let all = r.fits in
        let some = whole_some (nat_le levels 64) (drop i bytes) size e in
        let room : limit - (i + left) - (size - 1) ≡ limit - (i + size + (left - 1)) = omega arith in
        record {
          keeps = subst (λ (n : ℕ). Keeps bytes 0 (i + size) (missing ++ 0 ∷ []) (left - 1) levels n) room (keeps_whole r.keeps r.some top size e (omega arith));
          fits = fits;
          short = r.short;
          some = r.some;
        }

    pub reach_opens : (items size : ℕ) → step.Opens items size ≡ step_of (nat_le levels 64) (drop i bytes) → i + size + (left - 1) + items ≤ limit
        → Reaches bytes (i + size) (slice_set missing (levels - 1) (left - 1)) items (levels + 1) (limit - (left - 1))
    reach_opens items size e fits =
        let may_open = (told (nat_le levels 64) (drop i bytes) (step.Opens items size) e).1 in
        let few = at_most levels 64 may_open in
        let all = r.fits in
        let long = r.keeps.size in
        let one_more = length-append missing (0 ∷ []) in
        let some = opens_some (nat_le levels 64) (drop i bytes) items size e in
        let set : slice_set (missing ++ 0 ∷ []) (levels - 1) (left - 1) ≡ slice_set missing (levels - 1) (left - 1) ++ 0 ∷ [] = set-append_left missing (0 ∷ []) (levels - 1) (left - 1) (omega arith) in
        let room : limit - (i + left) - (size - 1 + items) ≡ limit - (left - 1) - (i + size + items) = omega arith in
        record {
          keeps =
              subst (λ (n : ℕ). Keeps bytes 0 (i + size) (slice_set missing (levels - 1) (left - 1) ++ 0 ∷ []) items (levels + 1) n) room
              (subst (λ (m : List ℕ). Keeps bytes 0 (i + size) m items (levels + 1) (limit - (i + left) - (size - 1 + items))) set (keeps_opens r.keeps r.some top items size e (omega arith)));
          fits = omega arith;
          short = let short = r.short in omega arith;
          some = omega arith;
        }

-- ---- the same in what is there

-- the level has to end so that each item that is missing outside it has room for one byte, among
-- the bytes that are there too
pub record Bounded (bytes : List ℕ) (i : ℕ) (missing : List ℕ) (left levels limit : ℕ) : Type 0 where
  pub spare : ℕ
  pub reaches : Reaches bytes i missing left levels (limit + spare)
  pub fits : i + left ≤ limit
  pub all : longest ≤ length bytes + spare

pub bound_first : (bytes missing : List ℕ) (items size limit : ℕ) → missing ≡ replicate 64 0 → step.Opens items size ≡ step_of true bytes → size + items ≤ limit → limit ≤ longest → longest ≤ length bytes + (longest - limit)
    → Bounded bytes size missing items 2 limit
bound_first bytes missing items size limit none e fits most all =
    let same : longest ≡ limit + (longest - limit) = omega arith in
    record { spare = longest - limit; reaches = subst (Reaches bytes size missing items 2) same (reach_first bytes missing items size none e (omega arith)); fits = fits; all = all }

module _ {bytes : List ℕ} {i : ℕ} {missing : List ℕ} {left levels limit : ℕ} (b : Bounded bytes i missing left levels limit) where
  pub bound_within : limit ≤ length bytes
  bound_within = let most = b.reaches.short in let all = b.all in omega arith

  pub bound_end : left ≡ 0 → levels - 1 ≡ 0 → IsScanned bytes 0 (scan.End i)
  bound_end none last = reach_end b.reaches none last

  pub bound_pop : left ≡ 0 → (outer : ℕ) → outer ≡ slice_index missing (levels - 1 - 1) → 0 < levels - 1 → Bounded bytes i missing outer (levels - 1) (limit + outer)
  bound_pop none outer e some =
      let fits = b.fits in
      let same : limit + b.spare + outer ≡ limit + outer + b.spare = omega arith in
      record { spare = b.spare; reaches = subst (Reaches bytes i missing outer (levels - 1)) same (reach_pop b.reaches none outer e some); fits = omega arith; all = b.all }

  module _ (top : 0 < left) where
    pub bound_here : i < length bytes
    bound_here = let fits = b.fits in let within = bound_within in omega arith

    behind : length (drop i bytes) ≡ length bytes - i
    behind = length-drop i bytes

    bound_whole : (size : ℕ) → step.Whole size ≡ step_of (nat_le levels 64) (drop i bytes) → i + size + (left - 1) ≤ limit → Bounded bytes (i + size) missing (left - 1) levels limit
    bound_whole size e fits = record { spare = b.spare; reaches = reach_whole b.reaches top size e (omega arith); fits = fits; all = b.all }

    pub bound_single : step.Whole 1 ≡ step_of (nat_le levels 64) (drop i bytes) → Bounded bytes (i + 1) missing (left - 1) levels limit
    bound_single e = let fits = b.fits in bound_whole 1 e (omega arith)

    pub bound_scalar : (size : ℕ) → told.Scalar size ≡ told_of (drop i bytes) → i + size + (left - 1) ≤ limit → Bounded bytes (i + size) missing (left - 1) levels limit
    bound_scalar size k fits =
        let here = bound_here in
        let within = bound_within in
        let rest = behind in
        bound_whole size (told_whole (nat_le levels 64) (drop i bytes) size (omega arith) k (omega arith)) fits

    pub bound_container : (items width : ℕ) → told.Container items width ≡ told_of (drop i bytes) → levels ≤ 64 → i + (1 + width) + (left - 1) + items ≤ limit
        → Bounded bytes (i + (1 + width)) (slice_set missing (levels - 1) (left - 1)) items (levels + 1) (limit - (left - 1))
    bound_container items width k few fits =
        let here = bound_here in
        let within = bound_within in
        let rest = behind in
        let e = told_opens (nat_le levels 64) (drop i bytes) items width (at_most_true levels 64 few) (omega arith) k (omega arith) in
        let same : limit + b.spare - (left - 1) ≡ limit - (left - 1) + b.spare = omega arith in
        record {
          spare = b.spare;
          reaches = subst (Reaches bytes (i + (1 + width)) (slice_set missing (levels - 1) (left - 1)) items (levels + 1)) same (reach_opens b.reaches top items (1 + width) e (omega arith));
          fits = omega arith;
          all = b.all;
        }
