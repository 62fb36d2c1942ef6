-- The forms of a plan's lines.
use Rattle.std.specs.Prelude.{ℕ, ◌^◌, ◌==◌, ◌||◌, Bool, false, List, [], ◌∷◌, codes, nat_lt, Option, Some, None, if◌then◌else◌}
use Rattle.std.specs.Char.{is_ascii_alphanumeric}
use Rattle.std.specs.List.{filter_map, list_all}
use Rattle.std.specs.Option.{option_and_then}
use Rattle.std.specs.Str.{bytes_eq, is_utf8}
use Rattle.conf_values.specs.Numbers.{number_of}
use Rattle.loss_rules.specs.declared.label.Duty.{Duty}
use Rattle.loss_rules.specs.declared.label.Duty.TheVariants.{Any, Every}
use Rattle.relay_conf.specs.Examined.{words_of}
use Rattle.text_lines.specs.Lines.{text_lines}

-- What a line is by its fields: it says nothing, names a relay, a client, tags that may reach a
-- scope or a match, says what is asked of matches, or is none of these.
pub data LineForm : Type 0 where
  nothing : LineForm
  a_relay : (number host folder conf : List ℕ) → LineForm
  a_client : (number port : List ℕ) (patterns : List (List ℕ)) → LineForm
  a_label : (number scope : List ℕ) (patterns : List (List ℕ)) → LineForm
  a_reach : (number scope index : List ℕ) (patterns : List (List ℕ)) → LineForm
  a_duty : Duty → LineForm
  no_form : LineForm

-- a letter, a digit, `_` or `-`
unfoldable pub is_folder_byte : ℕ → Bool
is_folder_byte b = is_ascii_alphanumeric b || b == 95 || b == 45

-- `relay NUMBER HOST FOLDER CONF`
abbrev pub relay_form : List (List ℕ) → LineForm
relay_form (number ∷ host ∷ folder ∷ conf ∷ []) = if list_all is_folder_byte folder
    then a_relay number host folder conf else no_form
relay_form _ = no_form

-- `client NUMBER PORT PATTERN ..`, with one pattern at least
abbrev pub client_form : List (List ℕ) → LineForm
client_form (number ∷ port ∷ pattern ∷ more) = a_client number port (pattern ∷ more)
client_form _ = no_form

-- `label NUMBER SCOPE PATTERN ..`, with one pattern at least
abbrev pub label_form : List (List ℕ) → LineForm
label_form (number ∷ scope ∷ pattern ∷ more) = a_label number scope (pattern ∷ more)
label_form _ = no_form

-- `reach NUMBER SCOPE INDEX PATTERN ..`, with one pattern at least
abbrev pub reach_form : List (List ℕ) → LineForm
reach_form (number ∷ scope ∷ index ∷ pattern ∷ more) = a_reach number scope index (pattern ∷ more)
reach_form _ = no_form

-- `duty any` or `duty every`
abbrev pub duty_form : List (List ℕ) → LineForm
duty_form (word ∷ []) = if bytes_eq word (codes "any") then a_duty Any
    else (if bytes_eq word (codes "every") then a_duty Every else no_form)
duty_form _ = no_form

-- a line that begins with this word and goes on with these fields
abbrev pub named_form : List ℕ → List (List ℕ) → LineForm
named_form word fields =
    if bytes_eq word (codes "relay") then relay_form fields
    else (if bytes_eq word (codes "client") then client_form fields
    else (if bytes_eq word (codes "label") then label_form fields
    else (if bytes_eq word (codes "reach") then reach_form fields
    else (if bytes_eq word (codes "duty") then duty_form fields else no_form))))

-- whether a word begins a comment
abbrev pub is_comment : List ℕ → Bool
is_comment [] = false
is_comment (b ∷ rest) = b == 35

-- a line of these fields
abbrev pub form_of : List (List ℕ) → LineForm
form_of [] = nothing
form_of (word ∷ fields) = if is_comment word then nothing else named_form word fields

-- a line: one that isn't UTF-8 has no form
abbrev pub line_form : List ℕ → LineForm
line_form line = if is_utf8 line then form_of (words_of line) else no_form

-- the relay's number that a field spells: decimal digits, whose value is below 2 to the 32nd
abbrev pub relay_number : List ℕ → Option ℕ
relay_number word = option_and_then (λ n. if nat_lt n (2 ^ 32) then Some n else None)
    (number_of word)

-- the last of five fields, of which the first is `relay`
abbrev pub conf_field : List (List ℕ) → Option (List ℕ)
conf_field (word ∷ number ∷ host ∷ folder ∷ conf ∷ []) = if bytes_eq word (codes "relay")
    then Some conf else None
conf_field _ = None

-- the configuration that a line names
abbrev pub conf_named : List ℕ → Option (List ℕ)
conf_named line = if is_utf8 line then conf_field (words_of line) else None

-- the configurations that a text names, in the order of its lines
abbrev pub confs_named : List ℕ → List (List ℕ)
confs_named text = filter_map conf_named (text_lines text)
