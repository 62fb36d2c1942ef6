-- Elements without where they lie in memory.
use Rattle.std.specs.Prelude.{ℕ, List, [], ◌∷◌}

-- how an element begins: `<name argument>`, in this line
pub record Heading : Type 0 where
  pub name : List ℕ
  pub argument : List ℕ
  pub line : ℕ

-- a parameter, in this line
pub record Setting : Type 0 where
  pub name : List ℕ
  pub value : List ℕ
  pub line : ℕ

-- an element: its heading, its parameters and its children, each in the order of the text
mutual
  pub data Tree : Type 0 where
    tree : Heading → List Setting → Trees → Tree

  pub data Trees : Type 0 where
    no_trees : Trees
    more_trees : Tree → Trees → Trees

-- a list of elements, as the children of one
abbrev pub trees : List Tree → Trees
trees [] = no_trees
trees (t ∷ ts) = more_trees t (trees ts)
