-- Texts that are read whole.
use Rattle.std.specs.Prelude.{◌≡◌, ℕ, List, Option, IfSome}

-- where it is known what a reader gives, it is this text
abbrev pub IsTextOf : Option (List ℕ) → List ℕ → Type 0
IsTextOf known text = IfSome known (λ whole. text ≡ whole)
