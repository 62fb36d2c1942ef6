-- The form of one line of a configuration (Fluentd, "Config File Syntax"). What is refused, and by
-- which fault, is chosen here.
use Rattle.std.specs.Prelude.{ℕ, ◌||◌, List, length, take, drop, ◌-◌, Option, Some, None, slice_index, ◌==◌, if◌then◌else◌}
use Rattle.conf_text.specs.Text.{begins, ends_in, skip_blanks, drop_blanks, trimmed, first_word, after_word, without_comment, is_name, is_parameter_name}
use Rattle.conf_text.specs.Quoted.{quoted}

-- what a line is: empty or a comment, `<name argument>`, `</name>`, `name value`, or one of the two
-- faults of a line alone
pub data LineForm : Type 0 where
  ignored : LineForm
  opens : (name argument : List ℕ) → LineForm
  ends : (name : List ℕ) → LineForm
  parameter : (name value : List ℕ) → LineForm
  bad_name : LineForm
  bad_quote : LineForm

-- what stands between `<` and `>`: a name, and behind blanks an argument
unfoldable pub opening_form : List ℕ → LineForm
opening_form inside = if is_name (first_word inside) then opens (first_word inside)
    (trimmed (after_word inside)) else bad_name

-- what stands between `</` and `>`: a name alone
unfoldable pub end_form : List ℕ → LineForm
end_form inside = if is_name inside then ends inside else bad_name

-- what stands between `<` and `>`
unfoldable pub inside_form : List ℕ → LineForm
inside_form inside = if begins 47 inside then end_form (drop 1 inside) else opening_form inside

-- what stands behind a line's `<`: without its comment it ends with `>`
unfoldable pub section_form : List ℕ → LineForm
section_form text = let whole = drop_blanks (without_comment text) in
    if ends_in 62 whole then inside_form (take (length whole - 1) whole) else bad_name

-- a value in quotes was read: only a comment may follow
abbrev pub quoted_form : List ℕ → Option (List ℕ × List ℕ) → LineForm
quoted_form name None = bad_quote
quoted_form name (Some found) = if length (skip_blanks (without_comment found.1)) == 0
    then parameter name found.0 else bad_quote

-- what stands behind a parameter's name: a value in quotes where its first byte is a mark, else the
-- text up to the comment
unfoldable pub value_form : List ℕ → List ℕ → LineForm
value_form name text = let value = skip_blanks text in
    if begins 34 value || begins 39 value
    then quoted_form name (quoted (slice_index value 0) (drop 1 value))
    else parameter name (trimmed (without_comment text))

-- a name, and behind blanks a value
unfoldable pub parameter_form : List ℕ → LineForm
parameter_form text = if is_parameter_name (first_word text) then value_form (first_word text)
    (after_word text) else bad_name

-- a line without the blanks at its ends
unfoldable pub text_form : List ℕ → LineForm
text_form text = if length text == 0 || begins 35 text then ignored
    else (if begins 60 text then section_form (drop 1 text) else parameter_form text)

-- a line
unfoldable pub line_form : List ℕ → LineForm
line_form line = text_form (trimmed line)
