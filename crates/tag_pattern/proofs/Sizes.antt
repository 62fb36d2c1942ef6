-- How many plain patterns slots stand for, how long they are, and whether a part is wrong.
use Rattle.std.proofs.Common.{◌≡◌, ◌≢◌, ℕ, ◌+◌, ◌*◌, ◌<◌, ◌≤◌, ◌==◌, ◌⊎◌, ◌↔◌, Bool, not, true, ◌&&◌, ◌||◌, IsTrue, List, [], ◌∷◌, ◌++◌, length, map, Option, Some, None, MatchOption, inl, inr, refl, sym, ap, subst, ◌∙◌, ⊎_elim, arith, length-append}
use Rattle.std.specs.List.{AllByRecursion, Any, list_any, flat_map}
use Rattle.std.proofs.lemmas.List.Folds.{Any-from_list_any, list_any-from_Any}
use Rattle.std.specs.Str.{bytes_eq}
use Rattle.std.proofs.lemmas.Bool.{or_cases, or_left, or_right, and_parts, and_from, eq-eqb, eqb-true, not-true, not_from_false, false≢true, false_from_ne_true, cases_lt}
use Rattle.std.proofs.lemmas.List.{length-map}
use Rattle.std.proofs.Math.Nat.{mul-pos, mul_assoc, le-mul_of_pos_right}
use Rattle.std.proofs.lemmas.Slice.Eq.{bytes_eq-Decides}
use Rattle.tag_pattern.specs.Cuts.{choices_in, is_partial, most_parts, SpellsRest, star}
use Rattle.tag_pattern.specs.Grammar.{Slot, Part, Group, AnyByRecursion, AreTooMany, HasPartialWildcard, IsPartialWildcard, IsSlot, IsPatternText, choices, expansions}
use Rattle.tag_pattern.specs.Survey.{Grows, IsSizeBefore, IsSurveyed, longest}
use Rattle.tag_pattern.specs.declared.survey.Size.{Size}
use Rattle.tag_pattern.proofs.SlotCuts.{along, all_append}
use Rattle.tag_pattern.proofs.Anys.{any-nil, any-here, any-later, any-cases, any-along, any-from, any-none}

-- ---- tests

list_any_is : {X : Type 0} (p : X → Bool) (P : X → Type 0) → ((x : X) → IsTrue (p x) ↔ P x) → (xs : List X) → IsTrue (list_any p xs) ↔ Any P xs
list_any_is p P test xs = (
  λ e. any-along (λ x. p x ≡ true) P (λ x. (test x).0) xs (Any-from_list_any p xs e),
  λ h. list_any-from_Any p xs (any-along P (λ x. p x ≡ true) (λ x. (test x).1) xs h),
)

differs : (a b : List ℕ) → IsTrue (not (bytes_eq a b)) ↔ (a ≢ b)
differs a b =
    let same = bytes_eq-Decides a b in (
      λ e same_is. false≢true (sym (not-true (bytes_eq a b) e) ∙ same.1 same_is),
      λ other. not_from_false (bytes_eq a b) (false_from_ne_true (bytes_eq a b) (λ e. other (same.0 e))),
    )

is_partial_is : (part : List ℕ) → IsTrue (is_partial part) ↔ IsPartialWildcard part
is_partial_is part =
    let has = list_any (λ b. b == star) part in
    let one = not (bytes_eq part (star ∷ [])) in
    let two = not (bytes_eq part (star ∷ star ∷ [])) in
    let stars = list_any_is (λ b. b == star) (λ b. b ≡ star) (λ b. (eqb-true b star, eq-eqb b star)) part in (
      λ e. let outer = and_parts has (one && two) e in let inner = and_parts one two outer.1 in (stars.0 outer.0, (differs part (star ∷ [])).0 inner.0, (differs part (star ∷ star ∷ [])).0 inner.1),
      λ h. and_from has (one && two) (stars.1 h.0) (and_from one two ((differs part (star ∷ [])).1 h.1) ((differs part (star ∷ star ∷ [])).1 h.2)),
    )

slot_partial_is : (alternatives : List (List (List ℕ))) → IsTrue (list_any (λ parts. list_any is_partial parts) alternatives) ↔ Any (Any IsPartialWildcard) alternatives
slot_partial_is alternatives = list_any_is (λ parts. list_any is_partial parts) (Any IsPartialWildcard) (list_any_is is_partial IsPartialWildcard is_partial_is) alternatives

-- ---- counts

-- no slot is without a choice
AreFull : List Slot → Type 0
AreFull slots = AllByRecursion (λ slot. 0 < length (choices slot)) slots

full_slot : (slot : Slot) → IsSlot slot → 0 < length (choices slot)
full_slot (Part text) is = omega arith
full_slot (Group []) is = absurd (is.0 refl)
full_slot (Group (a ∷ alternatives)) is = omega arith

full : (slots : List Slot) (text : List ℕ) → IsPatternText slots text → AreFull slots
unfolding AreFull
full slots text h = along IsSlot (λ slot. 0 < length (choices slot)) full_slot slots h.1

pub length-products : (fronts backs : List (List (List ℕ))) → length (flat_map (λ front. map (λ back. front ++ back) backs) fronts) ≡ length fronts * length backs
length-products [] backs = omega arith
length-products (front ∷ fronts) backs =
    let tail = length-products fronts backs in
    length-append (map (λ back. front ++ back) backs) (flat_map (λ x. map (λ back. x ++ back) backs) fronts)
    ∙ grind (arith, length-map backs (λ back. front ++ back))

-- there is an expansion
expansions_some : (slots : List Slot) → AreFull slots → 0 < length (expansions slots)
unfolding AreFull
expansions_some [] h = omega arith
expansions_some (slot ∷ slots) (h, hs) =
    let more = expansions_some slots hs in
    rw (length-products (choices slot) (expansions slots)) (mul-pos h more)

pub rest_some : (behind : List Slot) (rest : Option (List ℕ)) → SpellsRest behind rest → 0 < length (expansions behind)
rest_some behind None none = rw none (omega arith)
rest_some behind (Some text) h = expansions_some behind (full behind text h)

past_limit : (s n e : ℕ) → 64 < s * n → 0 < e → 64 < s * (n * e)
past_limit s n e many some = let more = le-mul_of_pos_right (s * n) some in rw (← mul_assoc) (omega arith)

-- ---- lengths

any_append_left : {X : Type 0} (P : X → Type 0) (xs ys : List X) → AnyByRecursion P xs → AnyByRecursion P (xs ++ ys)
any_append_left P [] ys h = absurd h
any_append_left P (x ∷ xs) ys (inl h) = inl h
any_append_left P (x ∷ xs) ys (inr h) = inr (any_append_left P xs ys h)

any_append_right : {X : Type 0} (P : X → Type 0) (xs ys : List X) → AnyByRecursion P ys → AnyByRecursion P (xs ++ ys)
any_append_right P [] ys h = h
any_append_right P (x ∷ xs) ys h = inr (any_append_right P xs ys h)

-- lists of at most, and of at least, this many parts
AtMost : ℕ → List (List ℕ) → Type 0
AtMost n parts = length parts ≤ n

AtLeast : ℕ → List (List ℕ) → Type 0
AtLeast n parts = n ≤ length parts

behind_most : (front : List (List ℕ)) (b n : ℕ) → length front + b ≤ n → (backs : List (List (List ℕ))) → AllByRecursion (AtMost b) backs → AllByRecursion (AtMost n) (map (λ back. front ++ back) backs)
unfolding AtMost
behind_most front b n room [] h = tt
behind_most front b n room (back ∷ backs) (h, hs) = (omega (arith, length-append front back), behind_most front b n room backs hs)

products_most : (a b n : ℕ) → a + b ≤ n → (fronts backs : List (List (List ℕ))) → AllByRecursion (AtMost a) fronts → AllByRecursion (AtMost b) backs → AllByRecursion (AtMost n) (flat_map (λ front. map (λ back. front ++ back) backs) fronts)
unfolding AtMost
products_most a b n room [] backs h k = tt
products_most a b n room (front ∷ fronts) backs (h, hs) k =
    all_append (AtMost n) (map (λ back. front ++ back) backs) _ (behind_most front b n (omega arith) backs k) (products_most a b n room fronts backs hs k)

choices_most : (n : ℕ) (alternatives : List (List (List ℕ))) → most_parts alternatives ≤ n → AllByRecursion (AtMost n) alternatives
unfolding AtMost
choices_most n [] h = tt
choices_most n (a ∷ alternatives) h = (omega arith, choices_most n alternatives (omega arith))

longest_most : (slots : List Slot) → AllByRecursion (AtMost (longest slots)) (expansions slots)
unfolding AtMost
longest_most [] = (omega arith, tt)
longest_most (slot ∷ slots) =
    products_most (most_parts (choices slot)) (longest slots) (longest (slot ∷ slots)) (omega arith) (choices slot) (expansions slots) (choices_most (most_parts (choices slot)) (choices slot) (omega arith)) (longest_most slots)

behind_least : (front : List (List ℕ)) (a b : ℕ) → a ≤ length front → (backs : List (List (List ℕ))) → AnyByRecursion (AtLeast b) backs → AnyByRecursion (AtLeast (a + b)) (map (λ back. front ++ back) backs)
unfolding AtLeast
behind_least front a b room [] h = absurd h
behind_least front a b room (back ∷ backs) (inl h) = inl (omega (arith, length-append front back))
behind_least front a b room (back ∷ backs) (inr h) = inr (behind_least front a b room backs h)

products_least : (a b : ℕ) (fronts backs : List (List (List ℕ))) → AnyByRecursion (AtLeast a) fronts → AnyByRecursion (AtLeast b) backs → AnyByRecursion (AtLeast (a + b)) (flat_map (λ front. map (λ back. front ++ back) backs) fronts)
unfolding AtLeast
products_least a b [] backs h k = absurd h
products_least a b (front ∷ fronts) backs (inl h) k = any_append_left (AtLeast (a + b)) (map (λ back. front ++ back) backs) _ (behind_least front a b h backs k)
products_least a b (front ∷ fronts) backs (inr h) k = any_append_right (AtLeast (a + b)) (map (λ back. front ++ back) backs) _ (products_least a b fronts backs h k)

choices_least : (alternatives : List (List (List ℕ))) → 0 < length alternatives → AnyByRecursion (AtLeast (most_parts alternatives)) alternatives
unfolding AtLeast
choices_least [] h = absurd (omega arith)
choices_least (a ∷ []) h = inl (omega arith)
choices_least (a ∷ b ∷ alternatives) h =
    elim (cases_lt (length a) (most_parts (b ∷ alternatives))) [
      | inl below ↦ let same : most_parts (a ∷ b ∷ alternatives) ≡ most_parts (b ∷ alternatives) = omega arith in
          inr (subst (λ (n : ℕ). AnyByRecursion (AtLeast n) (b ∷ alternatives)) (sym same) (choices_least (b ∷ alternatives) (omega arith)))
      | inr above ↦ inl (omega arith)
    ]

longest_least : (slots : List Slot) → AreFull slots → AnyByRecursion (AtLeast (longest slots)) (expansions slots)
unfolding AtLeast AreFull
longest_least [] h = inl (omega arith)
longest_least (slot ∷ slots) (h, hs) =
    products_least (most_parts (choices slot)) (longest slots) (choices slot) (expansions slots) (choices_least (choices slot) h) (longest_least slots hs)

too_long : (slots : List Slot) → AreFull slots → 32 < longest slots → AreTooMany slots
unfolding AtLeast
too_long slots h long = inr (any-along (AtLeast (longest slots)) (λ parts. 32 < length parts) (λ parts k. omega arith) (expansions slots) (any-from (AtLeast (longest slots)) (expansions slots) (longest_least slots h)))

within_limits : (slots : List Slot) → length (expansions slots) ≤ 64 → longest slots ≤ 32 → AreTooMany slots → ⊥
unfolding AtMost
within_limits slots few short (inl many) = omega arith
within_limits slots few short (inr long) = any-none (AtMost (longest slots)) (λ parts. 32 < length parts) (λ parts h k. omega arith) (expansions slots) (longest_most slots) long

-- ---- a survey

size_step : (slots behind : List Slot) (slot : Slot) (body : List ℕ) (s : Size) (grown : Option Size) → AreFull slots → 0 < length (expansions behind) → choices slot ≡ choices_in body → Grows s body grown → IsSizeBefore slots (slot ∷ behind) (Some s) → IsSizeBefore slots behind grown
size_step slots behind slot body s None f some is (inl many) (count, long) =
    inl (rw (count, length-products (choices slot) (expansions behind), is) (past_limit s.plains (length (choices_in body)) (length (expansions behind)) many some))
size_step slots behind slot body s None f some is (inr items) (count, long) =
    let most = ap most_parts is in too_long slots f (omega arith)
size_step slots behind slot body s (Some grown) f some is (plains, items) (count, long) =
    let most = ap most_parts is in
    (rw (count, length-products (choices slot) (expansions behind), is, plains) (sym (mul_assoc s.plains (length (choices_in body)) (length (expansions behind)))), omega arith)

sizes_step : (slots behind : List Slot) (slot : Slot) (body : List ℕ) (size grown : Option Size) → AreFull slots → 0 < length (expansions behind) → choices slot ≡ choices_in body → MatchOption size (grown ≡ None) (λ s. Grows s body grown) → IsSizeBefore slots (slot ∷ behind) size → IsSizeBefore slots behind grown
sizes_step slots behind slot body None grown f some is none many = rw none many
sizes_step slots behind slot body (Some s) grown f some is grows before = size_step slots behind slot body s grown f some is grows before

partial_step : (slots behind : List Slot) (slot : Slot) (body : List ℕ) (has more : Bool) → choices slot ≡ choices_in body → more ≡ list_any (λ parts. list_any is_partial parts) (choices_in body) → HasPartialWildcard slots ↔ (IsTrue has ⊎ HasPartialWildcard (slot ∷ behind)) → HasPartialWildcard slots ↔ (IsTrue (has || more) ⊎ HasPartialWildcard behind)
partial_step slots behind slot body has more is found before =
    let P : Slot → Type 0 = λ x. Any (Any IsPartialWildcard) (choices x) in
    let test = rw (← found, ← is) at (slot_partial_is (choices_in body)) in (
      λ h. elim (before.0 h) [
        | inl told ↦ inl (or_left has more told)
        | inr ahead ↦ elim (any-cases P slot behind ahead) [ inl here ↦ inl (or_right has more (test.1 here)) | inr later ↦ inr later ]
      ],
      λ h. elim h [
        | inl told ↦ elim (or_cases has more told) [ inl e ↦ before.1 (inl e) | inr e ↦ before.1 (inr (any-here P slot behind (test.0 e))) ]
        | inr later ↦ before.1 (inr (any-later P slot behind later))
      ],
    )

pub survey_step : (slots behind : List Slot) (text : List ℕ) (slot : Slot) (body : List ℕ) (rest : Option (List ℕ)) (has more : Bool) (size grown : Option Size) → IsPatternText slots text → SpellsRest behind rest → choices slot ≡ choices_in body → more ≡ list_any (λ parts. list_any is_partial parts) (choices_in body) → MatchOption size (grown ≡ None) (λ s. Grows s body grown) → IsSurveyed slots (slot ∷ behind) has size → IsSurveyed slots behind (has || more) grown
survey_step slots behind text slot body rest has more size grown spelled h is found grows before = record {
  partial = partial_step slots behind slot body has more is found before.partial;
  sized = sizes_step slots behind slot body size grown (full slots text spelled) (rest_some behind rest h) is grows before.sized;
}

pub surveyed_partial : (slots : List Slot) (has : Bool) (size : Option Size) → IsSurveyed slots [] has size → IsTrue has ↔ HasPartialWildcard slots
surveyed_partial slots has size survey =
    (λ e. survey.partial.1 (inl e), λ h. elim (survey.partial.0 h) [ inl e ↦ e | inr none ↦ absurd (any-nil (λ x. Any (Any IsPartialWildcard) (choices x)) none) ])

pub surveyed_count : (slots : List Slot) (has : Bool) (s : Size) → s.plains ≤ 64 → s.items ≤ 32 → IsSurveyed slots [] has (Some s) → (s.plains ≡ length (expansions slots)) × (AreTooMany slots → ⊥)
surveyed_count slots has s few short survey =
    let count : length (expansions slots) ≡ s.plains = survey.sized.0 ∙ omega arith in
    (sym count, within_limits slots (omega arith) (omega (arith, survey.sized.1)))
