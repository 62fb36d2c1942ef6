-- A tag whose parts are compared with a pattern from the last one on.
use Rattle.std.proofs.Common.{◌≡◌, ◌≢◌, ℕ, ◌+◌, ◌-◌, ◌<◌, ◌≤◌, ◌↔◌, Bool, false, IsTrue, List, [], ◌∷◌, ◌++◌, length, suc, take, drop, map, get_or, refl, ap, ◌∙◌, arith}
use Rattle.std.specs.List.{onto_first}
use Rattle.std.proofs.lemmas.List.{append-nil, drop_more, drop_all}
use Rattle.std.proofs.lemmas.List.Splits.{slice_split-cons_no}
use Rattle.std.proofs.lemmas.Bool.{ne_eqb}
use Rattle.tag_pattern.specs.Items.{Item}
use Rattle.tag_pattern.specs.Parts.{dot, parts_of}
use Rattle.tag_pattern.specs.Patterns.{InPattern}
use Rattle.tag_pattern.specs.Rows.{IsRow, IsNextRow, IsRowOfParts}
use Rattle.tag_pattern.specs.declared.item.PatternItem.TheVariants.{Literal}
use Rattle.tag_pattern.specs.declared.row.Relation.TheVariants as relation
use Rattle.tag_pattern.proofs.Sets.{literals_fit_iff}

-- From place at on, the text's first part ends at end, and the row is that of the parts behind it
-- and of what stands behind them all, of which start is the row.
abbrev pub IsMatchedFrom : List Item → List Bool → List ℕ → ℕ → ℕ → List Bool → Type 0
IsMatchedFrom items start bytes at end row =
    (tail : List (List ℕ)) × (parts_of (drop at bytes) ≡ take (end - at) (drop at bytes) ∷ tail) × IsRowOfParts tail items start row

pub parts_at_dot : (bs : List ℕ) → parts_of (dot ∷ bs) ≡ [] ∷ parts_of bs
parts_at_dot bs = refl

pub parts_at_byte : (b : ℕ) (bs : List ℕ) → b ≢ dot → parts_of (b ∷ bs) ≡ onto_first b (parts_of bs)
parts_at_byte b bs other = slice_split-cons_no _ b bs (ne_eqb b dot other)

back : (bytes : List ℕ) (i : ℕ) → 0 < i → i ≤ length bytes → drop (i - 1) bytes ≡ get_or bytes (i - 1) 0 ∷ drop i bytes
back bytes i some room = let one : i - 1 + 1 ≡ i = omega arith in drop_more bytes (i - 1) 0 (omega arith) ∙ rw one refl

pub part_dot : (items : List Item) (start : List Bool) (bytes : List ℕ) (i end : ℕ) (row result : List Bool) → 0 < i → i ≤ length bytes → get_or bytes (i - 1) 0 ≡ dot → IsMatchedFrom items start bytes i end row → IsNextRow relation.Fits (Literal (take (end - i) (drop i bytes))) items row result → IsMatchedFrom items start bytes (i - 1) (i - 1) result
part_dot items start bytes i end row result some room is (tail, parts, rows) next =
    let none : i - 1 - (i - 1) ≡ 0 = omega arith in
    let more : drop (i - 1) bytes ≡ dot ∷ drop i bytes = back bytes i some room ∙ ap (λ (b : ℕ). b ∷ drop i bytes) is in
    (take (end - i) (drop i bytes) ∷ tail, rw (more, none) (ap (λ (x : List (List ℕ)). [] ∷ x) parts), λ p under. next (map Literal tail ++ p) (rows p under))

pub part_byte : (items : List Item) (start : List Bool) (bytes : List ℕ) (i end : ℕ) (row : List Bool) → 0 < i → i ≤ length bytes → i ≤ end → get_or bytes (i - 1) 0 ≢ dot → IsMatchedFrom items start bytes i end row → IsMatchedFrom items start bytes (i - 1) end row
part_byte items start bytes i end row some room within other (tail, parts, rows) =
    let longer : end - (i - 1) ≡ suc (end - i) = omega arith in
    let b = get_or bytes (i - 1) 0 in
    let more = back bytes i some room in
    (tail, rw (more, longer) (parts_at_byte b (drop i bytes) other ∙ ap (onto_first b) parts), rows)

-- nothing is compared yet
pub matched_none : (items : List Item) (start : List Bool) (bytes : List ℕ) → IsMatchedFrom items start bytes (length bytes) (length bytes) start
matched_none items start bytes =
    let all : drop (length bytes) bytes ≡ [] = drop_all (length bytes) bytes (omega arith) in
    let none : length bytes - length bytes ≡ 0 = omega arith in
    ([], rw (all, none) refl, λ p under. under)

-- all parts but the first are compared
pub matched_all : (items : List Item) (start : List Bool) (bytes : List ℕ) (i end : ℕ) (row result : List Bool) → i ≡ 0 → IsMatchedFrom items start bytes i end row → IsNextRow relation.Fits (Literal (take end bytes)) items row result → IsRowOfParts (parts_of bytes) items start result
matched_all items start bytes i end row result first (tail, parts, rows) next =
    let whole : end - 0 ≡ end = omega arith in
    let cut : parts_of bytes ≡ take end bytes ∷ tail = rw (first, whole) at parts in
    rw cut (λ p under. next (map Literal tail ++ p) (rows p under))

-- the first place of the row of a tag's parts
pub matched_tag : (items : List Item) (bytes : List ℕ) (start result : List Bool) → IsRow relation.Fits [] items start → IsRowOfParts (parts_of bytes) items start result → IsTrue (get_or result 0 false) ↔ InPattern items (parts_of bytes)
matched_tag items bytes start result last rows =
    let none = append-nil (map Literal (parts_of bytes)) in
    let answer = rw none at (rows [] last 0 (omega arith)) in
    let fit = literals_fit_iff items (parts_of bytes) in
    (λ yes. fit.0 (answer.0 yes), λ is. answer.1 (fit.1 is))
