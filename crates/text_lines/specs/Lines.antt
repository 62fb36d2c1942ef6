-- The lines of a text.
use Rattle.std.specs.Prelude.{ℕ, ◌==◌, List, [], ◌∷◌}
use Rattle.std.specs.List.{slice_split}
use Rattle.std.specs.Str.Lines.{strip_carriage_return}

-- the lines of a text that was cut at each LF: a CR before an LF is dropped
abbrev pub lines_of_pieces : List (List ℕ) → List (List ℕ)
lines_of_pieces [] = []
lines_of_pieces (last ∷ []) = last ∷ []
lines_of_pieces (line ∷ next ∷ more) = strip_carriage_return line ∷ lines_of_pieces (next ∷ more)

-- the lines of a text
abbrev pub text_lines : List ℕ → List (List ℕ)
text_lines text = lines_of_pieces (slice_split (λ b. b == 10) text)
