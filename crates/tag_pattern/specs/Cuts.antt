-- Texts cut at a first mark, and a pattern's text cut after its first slot.
use Rattle.std.specs.Prelude.{◌≡◌, ℕ, ◌<◌, ◌==◌, Bool, true, false, not, ◌&&◌, List, [], ◌∷◌, ◌++◌, length, map, max, Option, Some, None, IfSome}
use Rattle.std.specs.List.{AllByRecursion, list_any, slice_split}
use Rattle.std.specs.Str.{bytes_eq}
use Rattle.tag_pattern.specs.Grammar.{Slot, IsSlot, IsPatternText, choices, slot_text}
use Rattle.tag_pattern.specs.Parts.{dot, parts_of}

-- the code of `*`
abbrev pub star : ℕ
star = 42

-- the code of `,`
abbrev pub comma : ℕ
comma = 44

-- the code of `{`
abbrev pub open_brace : ℕ
open_brace = 123

-- the code of `}`
abbrev pub close_brace : ℕ
close_brace = 125

-- the byte is one of the marks
abbrev pub is_among : List ℕ → ℕ → Bool
is_among marks b = list_any (λ mark. mark == b) marks

-- nothing, or a mark first
abbrev pub BeginsWith : (ℕ → Bool) → List ℕ → Type 0
BeginsWith p [] = Unit {0}
BeginsWith p (b ∷ bs) = p b ≡ true

-- the text cut in front of its first mark
pub record IsCut (p : ℕ → Bool) (text front back : List ℕ) : Type 0 where
  pub whole : front ++ back ≡ text
  pub front_lacks : AllByRecursion (λ b. p b ≡ false) front
  pub back_begins : BeginsWith p back

-- the alternatives in what stands between two braces, or in a part
abbrev pub choices_in : List ℕ → List (List (List ℕ))
choices_in body = map parts_of (slice_split (λ b. b == comma) body)

-- the pieces of what stands behind a separator
abbrev pub pieces_behind : ℕ → Option (List ℕ) → List (List ℕ)
pieces_behind separator None = []
pieces_behind separator (Some rest) = slice_split (λ b. b == separator) rest

-- the list is empty
abbrev pub is_nil : List ℕ → Bool
is_nil [] = true
is_nil (x ∷ xs) = false

-- the test of `IsPartialWildcard`
abbrev pub is_partial : List ℕ → Bool
is_partial part = list_any (λ b. b == star) part
    && (not (bytes_eq part (star ∷ [])) && not (bytes_eq part (star ∷ star ∷ [])))

-- the most parts of a choice
abbrev pub most_parts : List (List (List ℕ)) → ℕ
most_parts [] = 0
most_parts (parts ∷ others) = max (length parts) (most_parts others)

-- what stands behind a slot: nothing, or the text of more slots behind a dot
abbrev pub SpellsRest : List Slot → Option (List ℕ) → Type 0
SpellsRest slots None = slots ≡ []
SpellsRest slots (Some rest) = IsPatternText slots rest

-- A slot with these choices, and what may stand behind it, are all that the text can be.
pub record BeginsWithSlot (text body : List ℕ) (rest : Option (List ℕ)) : Type 0 where
  pub slot : Slot
  pub slot_choices : choices slot ≡ choices_in body
  pub only : (slots : List Slot) → IsPatternText slots text → (behind : List Slot)
      × (slots ≡ slot ∷ behind) × SpellsRest behind rest
  pub each : (behind : List Slot) → SpellsRest behind rest → IsPatternText (slot ∷ behind) text
  pub shorter : IfSome rest (λ r. length r < length text)

-- what ends a slot: nothing, or a dot
abbrev pub EndsSlot : List ℕ → Type 0
EndsSlot rest = BeginsWith (λ b. b == dot) rest

-- The text begins with a slot.
pub record HasSlotFirst (text : List ℕ) (slot : Slot) (rest : List ℕ) : Type 0 where
  pub is_slot : IsSlot slot
  pub whole : text ≡ slot_text slot ++ rest
  pub ends : EndsSlot rest

-- The text begins with a slot of these choices, and with no other, before whatever ends it.
pub record IsBody (text body after : List ℕ) : Type 0 where
  pub slot : Slot
  pub slot_choices : choices slot ≡ choices_in body
  pub is_slot : IsSlot slot
  pub whole : text ≡ slot_text slot ++ after
  pub only : (other : Slot) (rest : List ℕ) → HasSlotFirst text other rest → (other ≡ slot)
      × (rest ≡ after)

-- What stands behind an opening brace: alternatives that aren't empty, without braces, a closing
-- brace, and the rest.
pub record IsGroup (text body after : List ℕ) : Type 0 where
  pub whole : text ≡ body ++ close_brace ∷ after
  pub without_braces : AllByRecursion (λ b. is_among (open_brace ∷ close_brace ∷ []) b ≡ false) body
  pub none_empty : list_any is_nil (slice_split (λ b. b == comma) body) ≡ false
