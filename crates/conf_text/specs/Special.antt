-- What the front of a text in quotes is, where no byte stands that is only itself.
use Rattle.std.specs.Prelude.{◌≡◌, ℕ, ◌-◌, ◌<◌, ◌≤◌, List, [], ◌∷◌, ◌++◌, length, drop, slice_index, Option, Some, None, option_map}
use Rattle.conf_text.specs.declared.quoted.Special.{Special}
use Rattle.conf_text.specs.declared.quoted.Special.TheVariants.{Close, Stands, Bad}
use Rattle.conf_text.specs.declared.quoted.Piece.{Piece}
use Rattle.conf_text.specs.Quoted.{quoted}

-- a value with a front, and the text behind its closing mark
abbrev pub with_front : List ℕ → Option (List ℕ × List ℕ) → Option (List ℕ × List ℕ)
with_front front read = option_map (λ found. (front ++ found.0, found.1)) read

-- the closing mark; a character of the value, spelled in n bytes of which the last is ASCII; or a
-- fault
abbrev pub IsAtFront : ℕ → List ℕ → Special → Type 0
IsAtFront mark text Close = (0 < length text) × (slice_index text 0 < 128)
    × (quoted mark text ≡ Some ([], drop 1 text))
IsAtFront mark text (Stands c n) = (c < 128) × (0 < n) × (n ≤ length text)
    × (slice_index text (n - 1) < 128)
    × (quoted mark text ≡ with_front (c ∷ []) (quoted mark (drop n text)))
IsAtFront mark text Bad = quoted mark text ≡ None

-- the same, with the text behind it; a character leaves less text
abbrev pub IsPiece : ℕ → List ℕ → Piece → Type 0
IsPiece mark text (Piece.Close rest) = quoted mark text ≡ Some ([], rest.now)
IsPiece mark text (Piece.Stands c rest) = (c < 128) × (length rest.now < length text)
    × (quoted mark text ≡ with_front (c ∷ []) (quoted mark rest.now))
IsPiece mark text Piece.Bad = quoted mark text ≡ None
