-- What holds of each text, whatever a reader does.
use Rattle.std.specs.Prelude.{map, zero, suc, ◌≡◌, ℕ, ◌⊎◌, true, false, not, ◌&&◌, ◌||◌, List, [], ◌∷◌, ◌++◌, Some, ◌==◌, if◌then◌else◌}
use Rattle.std.specs.List.{flat_map, list_all, AllByRecursion}
use Rattle.conf_text.specs.declared.fault.ConfFault.{ConfFault}
use Rattle.conf_text.specs.Text.{trimmed, is_name, is_parameter_name}
use Rattle.conf_text.specs.Quoted.{quoted}
use Rattle.conf_text.specs.Form.{opens, ends, parameter, line_form}
use Rattle.conf_text.specs.Trees.{Setting, Tree, Trees, tree, no_trees, more_trees, trees}
use Rattle.conf_text.specs.Grammar.{numbered, most_open, IsContents, IsConfiguration, HasFault}

-- a text is a configuration of one list of elements alone
abbrev pub HasOneReading : Type 0
HasOneReading = (text : List ℕ) (xs ys : List Tree) → IsConfiguration text xs
    → IsConfiguration text ys → xs ≡ ys

-- a text has one first fault alone
abbrev pub HasOneFault : Type 0
HasOneFault = (text : List ℕ) (f g : ConfFault) → HasFault text f.kind f.line
    → HasFault text g.kind g.line → f ≡ g

-- a configuration has no fault
abbrev pub IsFaultless : Type 0
IsFaultless = (text : List ℕ) (xs : List Tree) (f : ConfFault) → IsConfiguration text xs
    → HasFault text f.kind f.line → ⊥

-- a text is a configuration, or has a fault
abbrev pub IsOneOrOther : Type 0
IsOneOrOther = (text : List ℕ) → ((xs : List Tree) × IsConfiguration text xs)
    ⊎ ((f : ConfFault) × HasFault text f.kind f.line)

-- each byte of a value between single quotes: `\` stands before a mark and before itself
abbrev pub in_single : ℕ → List ℕ
in_single b = if b == 92 || b == 39 then 92 ∷ b ∷ [] else b ∷ []

-- each value can be written between single quotes
abbrev pub SingleQuotesKeep : Type 0
SingleQuotesKeep = (value behind : List ℕ) → quoted 39 (flat_map in_single value ++ (39 ∷ behind))
    ≡ Some (value, behind)

-- each byte of a value between double quotes
abbrev pub in_double : ℕ → List ℕ
in_double b = if b == 92 || b == 34 then 92 ∷ b ∷ []
    else (if b == 10 then 92 ∷ 110 ∷ []
    else (if b == 13 then 92 ∷ 114 ∷ [] else (if b == 9 then 92 ∷ 116 ∷ [] else b ∷ [])))

-- no `{` stands behind a `#`
abbrev pub HasNoCode : List ℕ → Type 0
HasNoCode [] = Unit {0}
HasNoCode (b ∷ []) = Unit {0}
HasNoCode (b ∷ c ∷ rest) = ((b == 35 && c == 123) ≡ false) × HasNoCode (c ∷ rest)

-- each value that embeds no code can be written between double quotes, in one line
abbrev pub DoubleQuotesKeep : Type 0
DoubleQuotesKeep = (value behind : List ℕ) → HasNoCode value
    → quoted 34 (flat_map in_double value ++ (34 ∷ behind)) ≡ Some (value, behind)

-- a parameter's line, with its value between single quotes
abbrev pub setting_line : List ℕ → List ℕ → List ℕ
setting_line name value = name ++ (32 ∷ 39 ∷ (flat_map in_single value ++ (39 ∷ [])))

-- each name and each value is what its line is read as
abbrev pub SettingsAreRead : Type 0
SettingsAreRead = (name value : List ℕ) → is_parameter_name name ≡ true
    → line_form (setting_line name value) ≡ parameter name value

-- `<name argument>`
abbrev pub opening_line : List ℕ → List ℕ → List ℕ
opening_line name argument = 60 ∷ ((name ++ (32 ∷ argument)) ++ (62 ∷ []))

-- each name and each argument without a `#` and without blanks at its ends is what its line is read
-- as
abbrev pub OpeningsAreRead : Type 0
OpeningsAreRead = (name argument : List ℕ) → is_name name ≡ true → trimmed argument ≡ argument
    → list_all (λ b. not (b == 35)) argument ≡ true → line_form (opening_line name argument)
    ≡ opens name argument

-- `</name>`
abbrev pub end_line : List ℕ → List ℕ
end_line name = 60 ∷ 47 ∷ (name ++ (62 ∷ []))

-- each name is what its end is read as
abbrev pub EndsAreRead : Type 0
EndsAreRead = (name : List ℕ) → is_name name ≡ true → line_form (end_line name) ≡ ends name

-- a parameter but for its line
abbrev pub bare_setting : Setting → Setting
bare_setting s = record s { line = 0 }

-- an element but for its lines, and so for several
abbrev mutual
  pub bare : Tree → Tree
  bare (tree heading settings children) =
      tree (record heading { line = 0 }) (map bare_setting settings) (bares children)

  pub bares : Trees → Trees
  bares no_trees = no_trees
  bares (more_trees t ts) = more_trees (bare t) (bares ts)

-- the lines of an element: its opening, its parameters, its children, its end
abbrev mutual
  pub element_lines : Tree → List (List ℕ)
  element_lines (tree heading settings children) =
      opening_line heading.name heading.argument ∷ (map (λ s. setting_line s.name s.value) settings
      ++ (elements_lines children ++ (end_line heading.name ∷ [])))

  pub elements_lines : Trees → List (List ℕ)
  elements_lines no_trees = []
  elements_lines (more_trees t ts) = element_lines t ++ elements_lines ts

-- its names are names, its arguments have no `#` and no blanks at their ends, and it nests no
-- deeper than room
abbrev mutual
  pub CanStand : Tree → ℕ → Type 0
  CanStand (tree heading settings children) zero = ⊥
  CanStand (tree heading settings children) (suc room) = (is_name heading.name ≡ true)
      × (trimmed heading.argument ≡ heading.argument)
      × (list_all (λ b. not (b == 35)) heading.argument ≡ true)
      × AllByRecursion (λ s. is_parameter_name s.name ≡ true) settings × AllCanStand children room

  pub AllCanStand : Trees → ℕ → Type 0
  AllCanStand no_trees room = Unit {0}
  AllCanStand (more_trees t ts) room = CanStand t room × AllCanStand ts room

-- the lines of such elements are contents of these elements, but for the numbers of their lines
abbrev pub ElementsAreRead : Type 0
ElementsAreRead = (elements : Trees) → AllCanStand elements most_open
    → (read : List Tree) × IsContents most_open (numbered 1 (elements_lines elements)) [] read
    × (bares (trees read) ≡ bares elements)
