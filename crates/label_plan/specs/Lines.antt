-- Lines of labels and reaches.
use Rattle.std.specs.Prelude.{◌≡◌, ◌++◌, ◌||◌, ℕ, List, [], ◌∷◌, codes, All, Bool, true, false, filter, flat_map, if◌then◌else◌}
use Rattle.std.specs.Str.{bytes_eq, is_utf8}
use Rattle.relay_conf.specs.Examined.{words_of}
use Rattle.text_lines.specs.Lines.{text_lines}

-- whether there are no words, or the first of them is `label` or `reach`
abbrev pub are_label_words : List (List ℕ) → Bool
are_label_words [] = true
are_label_words (word ∷ words) = bytes_eq word (codes "label") || bytes_eq word (codes "reach")

-- The line is empty, or says a label or a reach if it says anything.
pub record IsLabelLine (line : List ℕ) : Type 0 where
  pub readable : is_utf8 line ≡ true
  pub words : are_label_words (words_of line) ≡ true

-- The text has the lines of the given one, and behind them such lines alone.
pub record OnlyAdds (given text : List ℕ) : Type 0 where
  pub lines : List (List ℕ)
  pub lines_are : text_lines text ≡ text_lines given ++ lines
  pub labels : All IsLabelLine lines

-- Lines that say something else.

-- whether there are words, of which the first is neither `label` nor `reach`
abbrev pub say_else : List (List ℕ) → Bool
say_else [] = false
say_else (word ∷ words) = if (bytes_eq word (codes "label") || bytes_eq word (codes "reach"))
    then false else true

-- whether a line says something else than a label or a reach: one that isn't UTF-8 does, and an
-- empty one doesn't
abbrev pub is_kept_line : List ℕ → Bool
is_kept_line line = if is_utf8 line then say_else (words_of line) else true

-- a line, with the line feed that ends it
abbrev pub ended : List ℕ → List ℕ
ended text = text ++ 10 ∷ []

-- those of these lines that say something else, each with a line feed behind it
abbrev pub kept_lines : List (List ℕ) → List ℕ
kept_lines lines = flat_map ended (filter is_kept_line lines)

-- those of a text
abbrev pub lines_without_labels : List ℕ → List ℕ
lines_without_labels text = kept_lines (text_lines text)
