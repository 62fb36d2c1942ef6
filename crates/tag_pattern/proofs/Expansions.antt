-- The plain pattern of a number, slot by slot.
use Rattle.std.proofs.Common.{◌≡◌, ℕ, suc, ◌+◌, ◌-◌, ◌*◌, ◌/◌, ◌%◌, ◌<◌, ◌≤◌, List, [], ◌∷◌, ◌++◌, length, map, get_or, Option, inl, inr, refl, sym, ap, subst, ◌∙◌, arith, add-one, append_assoc}
use Rattle.std.specs.List.{flat_map}
use Rattle.std.proofs.lemmas.Bool.{cases_lt}
use Rattle.std.proofs.lemmas.List.{get_or-map, get_or_append_left, get_or-append_right, length-map, map-append}
use Rattle.std.proofs.lemmas.Nat.{div_below}
use Rattle.std.proofs.Math.Nat.{div-eq_of_lt, mod-eq_of_lt, add-mod_left, add-div_left, mul-div_cancel_left, mod-lt}
use Rattle.tag_pattern.specs.Cuts.{choices_in, BeginsWithSlot, SpellsRest, comma}
use Rattle.tag_pattern.specs.Grammar.{Slot, IsPatternText, choices, expansions, part_item}
use Rattle.tag_pattern.specs.Items.{Item}
use Rattle.tag_pattern.specs.Parts.{parts_of}
use Rattle.tag_pattern.proofs.Sizes.{length-products, rest_some}
use Rattle.tag_pattern.proofs.Splits.{pieces, pieces_length}

-- what is read so far, and what is still to be read
pub record IsLeft (slots behind : List Slot) (wanted number left : ℕ) (items : List Item) : Type 0 where
  pub count : left ≡ length (expansions behind)
  pub below : number < left
  pub read : items ++ map part_item (get_or (expansions behind) number []) ≡ map part_item (get_or (expansions slots) wanted [])

later_below : (count e n : ℕ) → e ≤ n → n < suc count * e → n - e < count * e
later_below count e n later below = let more : suc count * e ≡ count * e + e = grind arith in omega arith

-- a list at a place, with another before it or behind it
at_front : (front : List (List ℕ)) (backs more : List (List (List ℕ))) (n : ℕ) → n < length backs → get_or (map (λ back. front ++ back) backs ++ more) n [] ≡ front ++ get_or backs n []
at_front front backs more n below =
    get_or_append_left (map (λ back. front ++ back) backs) more [] n (rw length-map below)
    ∙ get_or-map (λ (back : List (List ℕ)). front ++ back) backs n [] [] below

-- the list at a place of all products
product_at : (fronts backs : List (List (List ℕ))) (n : ℕ) → 0 < length backs → n < length fronts * length backs → get_or (flat_map (λ front. map (λ back. front ++ back) backs) fronts) n [] ≡ get_or fronts (n / length backs) [] ++ get_or backs (n % length backs) []
product_at [] backs n some below = absurd (omega arith)
product_at (front ∷ fronts) backs n some below =
    let e = length backs in
    elim (cases_lt n e) [
      | inl first ↦ rw (div-eq_of_lt first, mod-eq_of_lt first) (at_front front backs _ n first)
      | inr later ↦
          let m = n - e in
          let is : n ≡ e + m = omega arith in
          let wide = length-map backs (λ back. front ++ back) in
          let rest : m < length fronts * length backs = later_below (length fronts) e n later below in
          let skipped = get_or-append_right (map (λ back. front ++ back) backs) (flat_map (λ x. map (λ back. x ++ back) backs) fronts) e n [] wide later in
          let tail = product_at fronts backs m some rest in
          let quotient : n / e ≡ suc (m / e) = ap (λ (x : ℕ). x / e) is ∙ (add-div_left m some ∙ add-one (m / e)) in
          let remainder : n % e ≡ m % e = ap (λ (x : ℕ). x % e) is ∙ add-mod_left e m in
          skipped ∙ (tail ∙ rw (quotient, remainder) refl)
    ]

-- ---- one slot is read

left_is : (slot : Slot) (behind : List Slot) (body : List ℕ) (left count : ℕ) → choices slot ≡ choices_in body → count ≡ length (pieces comma body) → left ≡ length (expansions (slot ∷ behind)) → left ≡ count * length (expansions behind)
left_is slot behind body left count is pieces_are left_are =
    left_are ∙ (length-products (choices slot) (expansions behind) ∙ rw (is, length-map, pieces_are) refl)

pub left_less : (slot : Slot) (behind : List Slot) (body : List ℕ) (left count : ℕ) → choices slot ≡ choices_in body → count ≡ length (pieces comma body) → left ≡ length (expansions (slot ∷ behind)) → left / count ≡ length (expansions behind)
left_less slot behind body left count is pieces_are left_are =
    let some : 0 < count = rw pieces_are (pieces_length comma body) in
    rw (left_is slot behind body left count is pieces_are left_are) (mul-div_cancel_left (length (expansions behind)) some)

pub in_pieces : (slot : Slot) (behind : List Slot) (body : List ℕ) (number left count : ℕ) → choices slot ≡ choices_in body → count ≡ length (pieces comma body) → left ≡ length (expansions (slot ∷ behind)) → 0 < length (expansions behind) → number < left → number / (left / count) < length (pieces comma body)
in_pieces slot behind body number left count is pieces_are left_are some below =
    let all = left_is slot behind body left count is pieces_are left_are in
    rw (left_less slot behind body left count is pieces_are left_are, ← pieces_are) (div_below number (length (expansions behind)) count some (omega arith))

pub left_step : (slots behind : List Slot) (slot : Slot) (body chosen : List ℕ) (wanted number left count : ℕ) (items more : List Item) → choices slot ≡ choices_in body → count ≡ length (pieces comma body) → 0 < length (expansions behind) → chosen ≡ get_or (pieces comma body) (number / (left / count)) [] → more ≡ items ++ map part_item (parts_of chosen) → IsLeft slots (slot ∷ behind) wanted number left items → IsLeft slots behind wanted (number % (left / count)) (left / count) more
left_step slots behind slot body chosen wanted number left count items more is pieces_are some chosen_is more_is before =
    let e = length (expansions behind) in
    let less : left / count ≡ e = left_less slot behind body left count is pieces_are before.count in
    let at = in_pieces slot behind body number left count is pieces_are before.count some before.below in
    let within : number < length (choices slot) * e = rw (← length-products (choices slot) (expansions behind), ← before.count) before.below in
    let product = product_at (choices slot) (expansions behind) number some within in
    let here : parts_of chosen ≡ get_or (choices slot) (number / e) [] =
    ap parts_of chosen_is
    ∙ (sym (get_or-map parts_of (pieces comma body) (number / (left / count)) [] [] at)
    ∙ (ap (λ (n : ℕ). get_or (choices_in body) n []) (ap (λ (n : ℕ). number / n) less)
    ∙ ap (λ (x : List (List (List ℕ))). get_or x (number / e) []) (sym is))) in
    let rest = get_or (expansions behind) (number % e) [] in
    record {
      count = less;
      below = rw less (mod-lt number some);
      read = rw (more_is, less) (append_assoc items (map part_item (parts_of chosen)) (map part_item rest)
          ∙ (ap (λ (x : List Item). items ++ x) (sym (map-append part_item (parts_of chosen) rest) ∙ ap (map part_item) (ap (λ (x : List (List ℕ)). x ++ rest) here ∙ sym product))
          ∙ before.read));
    }

-- the slot that stands ahead
pub ahead_slot : (slots behind : List Slot) (ahead body : List ℕ) (rest : Option (List ℕ)) (wanted number left : ℕ) (items : List Item) → BeginsWithSlot ahead body rest → IsPatternText behind ahead → IsLeft slots behind wanted number left items
    → (slot : Slot) × (later : List Slot) × (choices slot ≡ choices_in body) × SpellsRest later rest × (0 < length (expansions later)) × IsLeft slots (slot ∷ later) wanted number left items
ahead_slot slots behind ahead body rest wanted number left items first h before =
    let found = first.only behind h in
    let P : List Slot → Type 0 = λ x. IsLeft slots x wanted number left items in
    (first.slot, found.0, first.slot_choices, found.2, rest_some found.0 rest found.2, subst P found.1 before)
