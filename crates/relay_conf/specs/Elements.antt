-- The parts of an element, and the values of its parameters.
use Rattle.std.specs.Prelude.{ℕ, Bool, List, [], ◌∷◌, ◌++◌, codes, reverse, Option, is_none, if◌then◌else◌, option_map, option_and_then, unwrap_or}
use Rattle.std.specs.List.{find}
use Rattle.std.specs.Str.{bytes_eq}
use Rattle.conf_text.specs.Trees.{Heading, Setting, Tree, tree, Trees, no_trees, more_trees}

-- a list of elements, from the children of one
abbrev pub tree_list : Trees → List Tree
tree_list no_trees = []
tree_list (more_trees t ts) = t ∷ tree_list ts

-- how an element begins
abbrev pub heading_of : Tree → Heading
heading_of (tree heading settings children) = heading

-- its parameters
abbrev pub settings_of : Tree → List Setting
settings_of (tree heading settings children) = settings

-- the elements in it
abbrev pub children_of : Tree → List Tree
children_of (tree heading settings children) = tree_list children

-- whether it has this name
abbrev pub is_named : List ℕ → Tree → Bool
is_named name t = bytes_eq (heading_of t).name name

-- the value of the last line of this name, if there is one
abbrev pub value_of : List ℕ → List Setting → Option (List ℕ)
value_of name settings =
    option_map (λ s. s.value) (find (λ s. bytes_eq s.name name) (reverse settings))

-- whether no parameter has this name
abbrev pub lacks : List ℕ → List Setting → Bool
lacks name settings = is_none (value_of name settings)

-- a value as f reads it, or the default
abbrev pub read_or : {X : Type 0} → (List ℕ → Option X) → X → Option (List ℕ) → X
read_or f default value = unwrap_or (option_and_then f value) default

-- the last of the elements of this name, if there is one
abbrev pub last_child : List ℕ → List Tree → Option Tree
last_child name children = find (is_named name) (reverse children)

-- an element and all that is in it, and elements one after the other with all that is in them, in
-- the order of the text, but for what is passed over
abbrev mutual
  pub tree_elements : Tree → List Tree
  tree_elements (tree h settings children) =
      if bytes_eq h.name (codes "system") then []
      else tree h settings children ∷ trees_elements children

  pub trees_elements : Trees → List Tree
  trees_elements no_trees = []
  trees_elements (more_trees t ts) = tree_elements t ++ trees_elements ts
