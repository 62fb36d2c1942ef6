-- What a source may put in front of the tags that enter there: a prefix, and a dot. All of this is
-- chosen here.
use Rattle.std.specs.Prelude.{ℕ, ◌==◌, Bool, ◌&&◌, ◌||◌, ◌↔◌, List, ◌∷◌, ◌++◌, length, map, Option}
use Rattle.std.specs.Char.{is_ascii_alphanumeric}
use Rattle.std.specs.Int.{is_in_range}
use Rattle.std.specs.List.{list_all}
use Rattle.std.specs.Option.{option_map_or}
use Rattle.tag_pattern.specs.Items.{Item}
use Rattle.tag_pattern.specs.Parts.{dot, parts_of}
use Rattle.tag_pattern.specs.Patterns.{IsTagOf}
use Rattle.tag_pattern.specs.declared.item.PatternItem.TheVariants.{Literal}

-- an ASCII letter, an ASCII digit, `_`, `-` or `.`
abbrev pub is_prefix_byte : ℕ → Bool
is_prefix_byte b = is_ascii_alphanumeric b || b == 95 || b == 45 || b == 46

-- 1 to 64 of these
abbrev pub is_prefix : List ℕ → Bool
is_prefix text = is_in_range 1 64 (length text) && list_all is_prefix_byte text

-- the tag with the prefix and a dot in front
abbrev pub prefixed_tag : List ℕ → List ℕ → List ℕ
prefixed_tag prefix tag = prefix ++ dot ∷ tag

-- the pattern with the prefix's parts in front, each as a literal
abbrev pub prefixed_items : List ℕ → List Item → List Item
prefixed_items prefix pattern = map Literal (parts_of prefix) ++ pattern

-- the tag as it is where this prefix, if there is one, is put in front
abbrev pub entered_tag : Option (List ℕ) → List ℕ → List ℕ
entered_tag prefix tag = option_map_or (λ text. text ++ dot ∷ tag) prefix tag

-- the same of a pattern, with the prefix's parts in front, each as a literal
abbrev pub entered_items : Option (List ℕ) → List Item → List Item
entered_items prefix pattern =
    option_map_or (λ text. map Literal (parts_of text) ++ pattern) prefix pattern

-- A tag is one of the pattern's exactly where the prefixed tag is one of the prefixed pattern's.
abbrev pub IsSameBehind : List ℕ → List Item → List Item → Type 0
IsSameBehind prefix pattern prefixed = (tag : List ℕ) → IsTagOf pattern tag
    ↔ IsTagOf prefixed (prefixed_tag prefix tag)

-- This is so of every prefix and every pattern.
abbrev pub PrefixedTagsAreOfPrefixed : Type 0
PrefixedTagsAreOfPrefixed = (prefix : List ℕ) (pattern : List Item)
    → IsSameBehind prefix pattern (prefixed_items prefix pattern)
