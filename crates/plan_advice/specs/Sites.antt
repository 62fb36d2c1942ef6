-- Lines that name a line of a text.
use Rattle.std.specs.Prelude.{ℕ, List, [], ◌∷◌, ◌++◌, codes, decimal}

-- these words, the text's name, the number of its line, and what is shown of that
abbrev pub site_line : List ℕ → List ℕ → ℕ → List ℕ → List ℕ
site_line words name line shown = codes "# "
    ++ (words
    ++ (codes " "
    ++ (name ++ (codes ", line " ++ (decimal line ++ (codes ": " ++ (shown ++ 10 ∷ [])))))))
