-- The texts of patterns, and the plain patterns that a text stands for.
-- That a group stands for each of its alternatives is Fluentd's ("Config File Syntax", "How Do
-- Match Patterns Work?"); where groups may stand, and the order of the plain patterns, are chosen
-- here.
use Rattle.std.specs.Prelude.{◌≡◌, ◌≢◌, ℕ, ◌<◌, ◌⊎◌, List, [], ◌∷◌, ◌++◌, length, map, codes, if◌then◌else◌}
use Rattle.std.specs.List.{Any, AllByRecursion, flat_map, join_with_byte}
use Rattle.std.specs.Str.{bytes_eq}
use Rattle.tag_pattern.specs.Items.{Item}
use Rattle.tag_pattern.specs.Parts.{dot}
use Rattle.tag_pattern.specs.declared.item.PatternItem.TheVariants.{Literal, AnyPart, AnyParts}

-- a part's text has no dot, comma or brace
abbrev pub IsPartText : List ℕ → Type 0
IsPartText part = AllByRecursion (λ b. (b ≢ dot) × (b ≢ 44) × (b ≢ 123) × (b ≢ 125)) part

-- What stands between the dots of a pattern: a part, or a group of alternatives, each of one or
-- more parts.
pub data Slot : Type 0 where
  Part : List ℕ → Slot
  Group : List (List (List ℕ)) → Slot

-- an alternative of a group: one or more parts, and not the empty text
abbrev pub IsAlternative : List (List ℕ) → Type 0
IsAlternative parts = (parts ≢ []) × (parts ≢ [] ∷ []) × AllByRecursion IsPartText parts

-- a part, or a group of one or more alternatives
abbrev pub IsSlot : Slot → Type 0
IsSlot (Part text) = IsPartText text
IsSlot (Group alternatives) = (alternatives ≢ []) × AllByRecursion IsAlternative alternatives

-- a part stands as it is; dots join an alternative's parts, commas the alternatives, and braces are
-- round them
abbrev pub slot_text : Slot → List ℕ
slot_text (Part text) = text
slot_text (Group alternatives) =
    codes "{" ++ join_with_byte 44 (map (join_with_byte dot) alternatives) ++ codes "}"

-- a pattern's text is that of one or more slots, which dots join
abbrev pub IsPatternText : List Slot → List ℕ → Type 0
IsPatternText slots text = (slots ≢ []) × AllByRecursion IsSlot slots
    × (text ≡ join_with_byte dot (map slot_text slots))

-- what may stand in a slot's place: a list of parts
abbrev pub choices : Slot → List (List (List ℕ))
choices (Part text) = (text ∷ []) ∷ []
choices (Group alternatives) = alternatives

-- The part lists for which the slots stand: each choice of the first slot, in order, before each
-- list for the slots behind it, in order. So the leftmost group varies slowest.
abbrev pub expansions : List Slot → List (List (List ℕ))
expansions [] = [] ∷ []
expansions (slot ∷ slots) = flat_map (λ front. map (λ back. front ++ back) (expansions slots))
    (choices slot)

-- the item that a part's text spells
abbrev pub part_item : List ℕ → Item
part_item text = if bytes_eq text (codes "*") then AnyPart
    else (if bytes_eq text (codes "**") then AnyParts else Literal text)

-- the plain patterns for which the slots stand
abbrev pub plain_patterns : List Slot → List (List Item)
plain_patterns slots = map (map part_item) (expansions slots)

-- P holds of some element
abbrev pub AnyByRecursion : {X : Type 0} → (X → Type 0) → List X → Type 0
AnyByRecursion P [] = ⊥
AnyByRecursion P (x ∷ xs) = P x ⊎ AnyByRecursion P xs

-- a part with a `*` in it that is neither `*` nor `**`
abbrev pub IsPartialWildcard : List ℕ → Type 0
IsPartialWildcard part = Any (λ b. b ≡ 42) part × (part ≢ codes "*")
    × (part ≢ codes "**")

-- such a part stands in some choice of some slot
abbrev pub HasPartialWildcard : List Slot → Type 0
HasPartialWildcard slots = Any (λ slot. Any (Any IsPartialWildcard) (choices slot)) slots

-- more than 64 plain patterns, or one of more than 32 items
abbrev pub AreTooMany : List Slot → Type 0
AreTooMany slots = (64 < length (expansions slots))
    ⊎ Any (λ parts. 32 < length parts) (expansions slots)

-- The slots spell the text, no part of them has a partial wildcard, and they are not too many.
pub record IsPattern (slots : List Slot) (text : List ℕ) : Type 0 where
  pub spelled : IsPatternText slots text
  pub whole_wildcards : HasPartialWildcard slots → ⊥
  pub few : AreTooMany slots → ⊥

-- A text is spelled by one list of slots at most.
abbrev pub SlotsAreUnique : Type 0
SlotsAreUnique = (slots others : List Slot) (text : List ℕ) → IsPatternText slots text
    → IsPatternText others text → slots ≡ others
