-- Reading from the first line on, as the code does it: what it means is in Grammar.
use Rattle.std.specs.Prelude.{ℕ, List, [], ◌∷◌, ◌++◌, length, Result, Ok, Err, nat_lt, if◌then◌else◌}
use Rattle.std.specs.Str.{is_utf8, bytes_eq}
use Rattle.conf_text.specs.declared.fault.FaultKind.{FaultKind}
use Rattle.conf_text.specs.declared.fault.FaultKind.TheVariants as kinds
use Rattle.conf_text.specs.declared.fault.ConfFault.{ConfFault}
use Rattle.conf_text.specs.Trees.{Heading, Setting, Tree, tree, no_trees, trees}
use Rattle.conf_text.specs.Form.{LineForm, ignored, opens, ends, parameter, bad_name, bad_quote}
use Rattle.conf_text.specs.Grammar.{Line, lines_of, most_open, top, bad_byte_line}

infixl 10 ◌>>=◌
-- goes on with what was read, or stays at a fault
abbrev pub ◌>>=◌ : {A B : Type 0} → Result A ConfFault → (A → Result B ConfFault)
    → Result B ConfFault
(Ok x) >>= f = f x
(Err e) >>= f = Err e

-- how an element of this line begins
abbrev pub headed : List ℕ → List ℕ → ℕ → Heading
headed name argument line = record { name = name; argument = argument; line = line }

-- a parameter of this line
abbrev pub set_to : List ℕ → List ℕ → ℕ → Setting
set_to name value line = record { name = name; value = value; line = line }

-- an open section, or what stands outside every section, with what it has so far
pub record Frame : Type 0 where
  pub heading : Heading
  pub settings : List Setting
  pub elements : List Tree

-- a frame, by its parts
abbrev pub frame : Heading → List Setting → List Tree → Frame
frame heading settings elements =
    record { heading = heading; settings = settings; elements = elements }

-- the innermost frame, and those round it from the inside out
pub record Stack : Type 0 where
  pub innermost : Frame
  pub outer : List Frame

-- a stack, by its parts
abbrev pub stack : Frame → List Frame → Stack
stack innermost outer = record { innermost = innermost; outer = outer }

-- a fault of this line
abbrev pub faulty : {A : Type 0} → FaultKind → ℕ → Result A ConfFault
faulty kind line = Err (record { kind = kind; line = line })

-- a frame with one more parameter
abbrev pub with_setting : Frame → Setting → Frame
with_setting f s = frame f.heading (f.settings ++ (s ∷ [])) f.elements

-- a frame with one more element
abbrev pub with_element : Frame → Tree → Frame
with_element f t = frame f.heading f.settings (f.elements ++ (t ∷ []))

-- the element that a frame is once it ends
abbrev pub closed : Frame → Tree
closed f = tree f.heading f.settings (trees f.elements)

-- a section opens, where fewer are open than may be
unfoldable pub open_one : ℕ → List ℕ → List ℕ → Stack → Result Stack ConfFault
open_one line name argument s = if nat_lt (length s.outer) most_open
    then Ok (stack (frame (headed name argument line) [] []) (s.innermost ∷ s.outer))
    else faulty kinds.TooDeep line

-- the innermost section ends, where the name is its own
abbrev pub close_in : ℕ → List ℕ → Frame → List Frame → Result Stack ConfFault
close_in line name innermost [] = faulty kinds.WrongEnd line
close_in line name innermost (parent ∷ outer) = if bytes_eq innermost.heading.name name
    then Ok (stack (with_element parent (closed innermost)) outer) else faulty kinds.WrongEnd line

-- the same at a stack
unfoldable pub close_one : ℕ → List ℕ → Stack → Result Stack ConfFault
close_one line name s = close_in line name s.innermost s.outer

-- one line
abbrev pub step : ℕ → LineForm → Stack → Result Stack ConfFault
step line ignored s = Ok s
step line (opens name argument) s = open_one line name argument s
step line (ends name) s = close_one line name s
step line (parameter name value) s =
    Ok (stack (with_setting s.innermost (set_to name value line)) s.outer)
step line bad_name s = faulty kinds.BadName line
step line bad_quote s = faulty kinds.BadQuote line

-- lines one after the other
abbrev pub steps : List Line → Stack → Result Stack ConfFault
steps [] s = Ok s
steps (line ∷ lines) s = step line.0 line.1 s >>= λ t. steps lines t

-- nothing was read
abbrev pub start : Stack
start = stack (frame top [] []) []

-- parameters outside every section, where there are any, stand in a first element
abbrev pub first_and : Heading → List Setting → List Tree → List Tree
first_and heading [] elements = elements
first_and heading (setting ∷ settings) elements =
    tree heading (setting ∷ settings) no_trees ∷ elements

-- at the end no section may be open
abbrev pub end_in : Frame → List Frame → Result (List Tree) ConfFault
end_in innermost [] = Ok (first_and innermost.heading innermost.settings innermost.elements)
end_in innermost (parent ∷ outer) = faulty kinds.OpenSection innermost.heading.line

-- the same at a stack
unfoldable pub end_of : Stack → Result (List Tree) ConfFault
end_of s = end_in s.innermost s.outer

-- all lines of a text
unfoldable pub elements_of : List Line → Result (List Tree) ConfFault
elements_of lines = steps lines start >>= λ s. end_of s

-- all bytes of a text
unfoldable pub reading : List ℕ → Result (List Tree) ConfFault
reading text = if is_utf8 text then elements_of (lines_of text)
    else faulty kinds.NotUtf8 (bad_byte_line text)
