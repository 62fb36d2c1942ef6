-- What a configuration says, and what stands for it in an adapted one.
use Rattle.std.specs.Prelude.{ℕ, List, [], ◌∷◌, ◌++◌, map}
use Rattle.std.specs.List.{flat_map}
use Rattle.conf_text.specs.Trees.{Heading, Setting, Tree, tree, Trees, no_trees, more_trees}
use Rattle.conf_listing.specs.declared.adapted.Row.{Row}
use Rattle.conf_listing.specs.declared.adapted.Entry.{Entry}
use Rattle.conf_listing.specs.declared.adapted.Entry.TheVariants as entry

-- a section or a parameter: its line, and how it is named
pub record Item : Type 0 where
  pub line : ℕ
  pub subject : List ℕ

-- an item, by its parts
abbrev pub item : ℕ → List ℕ → Item
item line subject = record { line = line; subject = subject }

-- an argument behind a space; nothing of an empty one
abbrev pub behind_space : List ℕ → List ℕ
behind_space [] = []
behind_space (b ∷ rest) = 32 ∷ b ∷ rest

-- `<name argument>`
abbrev pub heading_text : List ℕ → List ℕ → List ℕ
heading_text name argument = 60 ∷ (name ++ (behind_space argument ++ 62 ∷ []))

-- a section, by its opening
abbrev pub section_item : Heading → Item
section_item heading = item heading.line (heading_text heading.name heading.argument)

-- a parameter, by its name
abbrev pub parameter_item : Setting → Item
parameter_item setting = item setting.line setting.name

-- All that sections say, in the order of the text: each section, its parameters, and then the
-- sections in it.
abbrev mutual
  pub items_in : Tree → List Item
  items_in (tree heading settings children) =
      section_item heading ∷ (map parameter_item settings ++ items_of children)

  pub items_of : Trees → List Item
  items_of no_trees = []
  items_of (more_trees t ts) = items_in t ++ items_of ts

-- what a row stands for
abbrev pub item_of : {A : Type 0} → Row A → Item
item_of row = item row.line row.subject.items

-- what an entry stands for: the end of a section for nothing
abbrev pub stands_for : {A : Type 0} → Entry A → List Item
stands_for (entry.Of row) = item_of row ∷ []
stands_for (entry.End line text) = []

-- what all of them stand for
abbrev pub all_stand_for : {A : Type 0} → List (Entry A) → List Item
all_stand_for entries = flat_map stands_for entries
