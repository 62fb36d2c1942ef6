-- An item of a plain pattern, seen without how its text is kept.
use Rattle.std.specs.Prelude.{ℕ, List, map}
use Rattle.std.specs.declared.vec.Vec.{Vec}
use Rattle.tag_pattern.specs.declared.item.PatternItem.{PatternItem}
use Rattle.tag_pattern.specs.declared.item.PatternItem.TheVariants.{Literal, AnyPart, AnyParts}

-- an item whose literal is its bytes
abbrev pub Item : Type 0
Item = PatternItem (List ℕ)

-- the item that keeps its literal in a vector
abbrev pub item_of : {A : Type 0} → PatternItem (Vec ℕ A) → Item
item_of (Literal text) = Literal text.items
item_of AnyPart = AnyPart
item_of AnyParts = AnyParts

-- the items of a pattern
abbrev pub items_of : {A : Type 0} → List (PatternItem (Vec ℕ A)) → List Item
items_of items = map item_of items
