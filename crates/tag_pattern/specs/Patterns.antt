-- What plain patterns match, and how two of them compare.
use Rattle.std.specs.Prelude.{◌≡◌, ℕ, List, [], ◌∷◌, ◌++◌}
use Rattle.tag_pattern.specs.Items.{Item}
use Rattle.tag_pattern.specs.Parts.{parts_of}
use Rattle.tag_pattern.specs.declared.item.PatternItem.TheVariants.{Literal, AnyPart, AnyParts}

-- The parts are in the pattern's set: the empty pattern has no parts at all, a literal is that
-- part, `*` is any one part, `**` is any number of parts (Fluentd, "Config File Syntax", "How Do
-- Match Patterns Work?").
-- That `**` may stand anywhere, and that a part may be empty, is chosen here.
abbrev pub InPattern : List Item → List (List ℕ) → Type 0
InPattern [] parts = parts ≡ []
InPattern (Literal text ∷ p) parts = (rest : List (List ℕ)) × (parts ≡ text ∷ rest)
    × InPattern p rest
InPattern (AnyPart ∷ p) parts = (part : List ℕ) × (rest : List (List ℕ)) × (parts ≡ part ∷ rest)
    × InPattern p rest
InPattern (AnyParts ∷ p) parts = (front : List (List ℕ)) × (rest : List (List ℕ))
    × (parts ≡ front ++ rest) × InPattern p rest

-- the tag is one of the pattern's
abbrev pub IsTagOf : List Item → List ℕ → Type 0
IsTagOf pattern tag = InPattern pattern (parts_of tag)

-- One pattern fits another, by these rules and no others. They speak of items alone, and not of
-- tags.
pub data Fits : List Item → List Item → Type 0 where
  empty_fits : Fits [] []
  literal_fits_itself : {text : List ℕ} {p q : List Item} → Fits p q
      → Fits (Literal text ∷ p) (Literal text ∷ q)
  literal_fits_part : {text : List ℕ} {p q : List Item} → Fits p q
      → Fits (Literal text ∷ p) (AnyPart ∷ q)
  part_fits_part : {p q : List Item} → Fits p q → Fits (AnyPart ∷ p) (AnyPart ∷ q)
  none_fits_parts : {p q : List Item} → Fits p q → Fits p (AnyParts ∷ q)
  item_fits_parts : {item : Item} {p q : List Item} → Fits p (AnyParts ∷ q)
      → Fits (item ∷ p) (AnyParts ∷ q)

-- Two patterns meet, by these rules and no others. They speak of items alone, and not of tags.
pub data Meets : List Item → List Item → Type 0 where
  empty_meets : Meets [] []
  literal_meets_itself : {text : List ℕ} {p q : List Item} → Meets p q
      → Meets (Literal text ∷ p) (Literal text ∷ q)
  literal_meets_part : {text : List ℕ} {p q : List Item} → Meets p q
      → Meets (Literal text ∷ p) (AnyPart ∷ q)
  part_meets_literal : {text : List ℕ} {p q : List Item} → Meets p q
      → Meets (AnyPart ∷ p) (Literal text ∷ q)
  part_meets_part : {p q : List Item} → Meets p q → Meets (AnyPart ∷ p) (AnyPart ∷ q)
  parts_meet_none : {p q : List Item} → Meets p q → Meets (AnyParts ∷ p) q
  parts_meet_item : {item : Item} {p q : List Item} → Meets (AnyParts ∷ p) q
      → Meets (AnyParts ∷ p) (item ∷ q)
  none_meets_parts : {p q : List Item} → Meets p q → Meets p (AnyParts ∷ q)
  item_meets_parts : {item : Item} {p q : List Item} → Meets p (AnyParts ∷ q)
      → Meets (item ∷ p) (AnyParts ∷ q)

-- What fits a pattern has no tag that the pattern lacks.
abbrev pub FitsIsSubset : Type 0
FitsIsSubset = (p q : List Item) (tag : List ℕ) → Fits p q → IsTagOf p tag → IsTagOf q tag

-- Patterns with a common tag meet.
abbrev pub CommonTagMeets : Type 0
CommonTagMeets = (p q : List Item) (tag : List ℕ) → IsTagOf p tag → IsTagOf q tag → Meets p q
