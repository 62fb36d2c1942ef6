-- The plain patterns of a text, read one by one, and its faults.
use Rattle.std.proofs.Common.{◌≡◌, ℕ, ◌+◌, ◌<◌, ◌≤◌, List, [], ◌∷◌, ◌++◌, length, map, take, get_or, suc, zero, Result, Ok, Err, MatchResult, IfOk, inl, inr, refl, ap, subst, ◌∙◌, arith}
use Rattle.std.proofs.lemmas.Bool.{cases_lt}
use Rattle.std.proofs.lemmas.List.{length-map, get_or-map, take_more}
use Rattle.tag_pattern.specs.Grammar.{Slot, IsPatternText, AreTooMany, IsPattern, expansions, part_item, plain_patterns}
use Rattle.tag_pattern.specs.Items.{Item}
use Rattle.tag_pattern.specs.declared.pattern.PatternError.{PatternError}
use Rattle.tag_pattern.specs.declared.pattern.PatternError.TheVariants.{Memory}
use Rattle.tag_pattern.proofs.Anys.{any-at}
use Rattle.tag_pattern.proofs.SlotCuts.{slots_unique}

-- no plain pattern is too long
pub short : (slots : List Slot) (number : ℕ) (items : List Item) → (AreTooMany slots → ⊥) → number < length (plain_patterns slots) → items ≡ map part_item (get_or (expansions slots) number []) → length items ≤ 32
short slots number items few below is =
    let wide = length-map (expansions slots) (map part_item) in
    let parts = get_or (expansions slots) number [] in
    let long : length items ≡ length parts = ap length is ∙ length-map parts part_item in
    elim (cases_lt 32 (length items)) [
      | inl more ↦ absurd (few (inr (any-at (λ x. 32 < length x) (expansions slots) number [] (omega arith) (omega arith))))
      | inr less ↦ less
    ]

-- one more plain pattern is read
pub read_more : (slots : List Slot) (number : ℕ) (read : List (List Item)) (items : List Item) → number < length (plain_patterns slots) → read ≡ take number (plain_patterns slots) → items ≡ map part_item (get_or (expansions slots) number []) → read ++ items ∷ [] ≡ take (number + 1) (plain_patterns slots)
read_more slots number read items below so_far is =
    let wide = length-map (expansions slots) (map part_item) in
    let at = get_or-map (map part_item) (expansions slots) number [] [] (omega arith) in
    rw (take_more (plain_patterns slots) number [] below, so_far, is, at) refl

-- the slots that are meant are those that the text has
pub same_pattern : (slots others : List Slot) (text : List ℕ) → IsPattern slots text → IsPatternText others text → IsPattern others text
same_pattern slots others text pattern h =
    let P : List Slot → Type 0 = λ x. IsPattern x text in subst P (slots_unique slots others text pattern.spelled h) pattern

pub same_count : (slots others : List Slot) (text : List ℕ) (n : ℕ) → IsPatternText slots text → IsPatternText others text → n ≡ length (plain_patterns slots) → n ≡ length (plain_patterns others)
same_count slots others text n h k is = subst (λ (x : List Slot). n ≡ length (plain_patterns x)) (slots_unique slots others text h k) is

-- what holds of the slots of a text holds of any slots that it has
pub moved : (P : List Slot → Type 0) (slots others : List Slot) (text : List ℕ) → IsPatternText slots text → IsPatternText others text → P slots → P others
moved P slots others text h k p = subst P (slots_unique slots others text h k) p

-- what holds of each value that a call gives
pub ok_from : {X Y : Type 0} (P R : X → Type 0) (Q : Y → Type 0) (r : Result X Y) → ((x : X) → P x → R x) → MatchResult r P Q → IfOk r R
ok_from P R Q (Ok x) f h = f x h
ok_from P R Q (Err e) f h = tt

pub only_memory : {X : Type 0} (r : Result X PatternError) (P : X → Type 0) (fault : PatternError) → MatchResult r P (λ e. e ≡ Memory) → r ≡ Err fault → fault ≡ Memory
only_memory r P fault h is = rw is at h
