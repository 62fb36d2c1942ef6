-- The grammar of a configuration over its lines (Fluentd, "Config File Syntax"), and where a text
-- breaks it.
use Rattle.std.specs.Prelude.{◌≡◌, ℕ, suc, ◌+◌, ⊤, List, [], ◌∷◌, ◌++◌, take, count_by, ◌==◌}
use Rattle.std.specs.Str.{IsUtf8}
use Rattle.std.specs.Str.Lines.{lines}
use Rattle.std.specs.Str.Lossy.{utf8_valid_len}
use Rattle.conf_text.specs.declared.fault.FaultKind.{FaultKind}
use Rattle.conf_text.specs.declared.fault.FaultKind.TheVariants as kinds
use Rattle.conf_text.specs.declared.fault.ConfError.{ConfError}
use Rattle.conf_text.specs.declared.fault.ConfError.TheVariants as errors
use Rattle.conf_text.specs.Trees.{Heading, Setting, Tree, tree, no_trees, trees}
use Rattle.conf_text.specs.Form.{LineForm, ignored, opens, ends, parameter, bad_name, bad_quote, line_form}

-- a line: its number, from 1, and its form
abbrev pub Line : Type 0
Line = ℕ × LineForm

-- lines under numbers from n on
abbrev pub numbered : ℕ → List (List ℕ) → List Line
numbered n [] = []
numbered n (text ∷ texts) = (n, line_form text) ∷ numbered (n + 1) texts

-- the lines of a text: cut at each LF, a CR before it dropped
unfoldable pub lines_of : List ℕ → List Line
lines_of text = numbered 1 (lines text)

-- The lines are these parameters and these elements, in this order, with other lines ignored.
-- An element is its opening line, the lines of its contents, and its end.
-- No more than room sections are open at once.
pub data IsContents : ℕ → List Line → List Setting → List Tree → Type 0 where
  nothing : {room : ℕ} → IsContents room [] [] []
  passed : {room line : ℕ} {rest : List Line} {settings : List Setting} {elements : List Tree}
      → IsContents room rest settings elements
      → IsContents room ((line, ignored) ∷ rest) settings elements
  set : {room line : ℕ} {name value : List ℕ} {rest : List Line} {settings : List Setting}
      {elements : List Tree}
      → IsContents room rest settings elements
      → IsContents room ((line, parameter name value) ∷ rest)
      (record { name = name; value = value; line = line } ∷ settings) elements
  section : {room line : ℕ} {name argument : List ℕ} {inside rest : List Line}
      {within settings : List Setting} {children elements : List Tree} (end : ℕ)
      → IsContents room inside within children
      → IsContents (suc room) rest settings elements
      → IsContents (suc room)
      (((line, opens name argument) ∷ inside) ++ ((end, ends name) ∷ rest)) settings
      (tree (record { name = name; argument = argument; line = line }) within (trees children)
      ∷ elements)

-- how many sections may be open at once: a limit chosen here
abbrev pub most_open : ℕ
most_open = 8

-- what stands outside every section has no heading
abbrev pub top : Heading
top = record { name = []; argument = []; line = 0 }

-- parameters outside every section, where there are any, stand in a first element
abbrev pub with_first : List Setting → List Tree → List Tree
with_first [] elements = elements
with_first (setting ∷ settings) elements = tree top (setting ∷ settings) no_trees ∷ elements

-- the text is a configuration of these elements
pub record IsConfiguration (text : List ℕ) (elements : List Tree) : Type 0 where
  pub utf8 : IsUtf8 text
  pub settings : List Setting
  pub sections : List Tree
  pub contents : IsContents most_open (lines_of text) settings sections
  pub whole : elements ≡ with_first settings sections

-- some lines behind these make a configuration of them
abbrev pub Begin : List Line → Type 0
Begin lines = (more : List Line) × (settings : List Setting) × (elements : List Tree)
    × IsContents most_open (lines ++ more) settings elements

-- the fault of a line of this form where it can't stand
abbrev pub IsFaultOf : FaultKind → LineForm → Type 0
IsFaultOf kinds.BadName bad_name = ⊤
IsFaultOf kinds.BadQuote bad_quote = ⊤
IsFaultOf kinds.WrongEnd (ends name) = ⊤
IsFaultOf kinds.TooDeep (opens name argument) = ⊤
IsFaultOf _ _ = ⊥

-- the lines before this one begin a configuration, and with it they don't
pub record BreaksAt (all : List Line) (kind : FaultKind) (line : ℕ) : Type 0 where
  pub before : List Line
  pub form : LineForm
  pub after : List Line
  pub parts : all ≡ before ++ ((line, form) ∷ after)
  pub begins : Begin before
  pub breaks : ¬ Begin (before ++ ((line, form) ∷ []))
  pub fault : IsFaultOf kind form

-- The lines begin a configuration, and this one opens the innermost of the sections that are open
-- at the end: what stands behind it is whole.
abbrev pub EndsOpen : List Line → ℕ → Type 0
EndsOpen all line = Begin all × (before inside : List Line) × (name argument : List ℕ)
    × (settings : List Setting) × (elements : List Tree)
    × (all ≡ before ++ ((line, opens name argument) ∷ inside))
    × IsContents most_open inside settings elements

-- the line of the first byte that isn't UTF-8
abbrev pub bad_byte_line : List ℕ → ℕ
bad_byte_line text = count_by (λ b. b == 10) (take (utf8_valid_len text) text) + 1

-- The text has this fault, and it is the first: bad bytes come before all others, an open section
-- after all others, and the others by lines in order.
abbrev pub HasFault : List ℕ → FaultKind → ℕ → Type 0
HasFault text kinds.NotUtf8 line = ¬ (IsUtf8 text) × (line ≡ bad_byte_line text)
HasFault text kinds.OpenSection line = IsUtf8 text × EndsOpen (lines_of text) line
HasFault text kind line = IsUtf8 text × BreaksAt (lines_of text) kind line

-- why a text wasn't read: it has that fault, or memory ran out
abbrev pub IsRefusal : List ℕ → ConfError → Type 0
IsRefusal text errors.Memory = ⊤
IsRefusal text (errors.Fault f) = HasFault text f.kind f.line
