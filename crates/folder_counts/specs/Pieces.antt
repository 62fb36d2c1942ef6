-- Texts that are made of pieces.
use Rattle.std.specs.Prelude.{ℕ, ◌==◌, ◌||◌, cond, List, [], ◌∷◌, decimal}
use Rattle.std.specs.List.{flat_map}
use Rattle.folder_counts.specs.Times.{seconds_text}
use Rattle.folder_counts.specs.declared.pieces.Piece.{Piece}
use Rattle.folder_counts.specs.declared.pieces.Piece.TheVariants.{Text, Value, Number, Seconds}

-- a byte of a label's value: `\` in front of a quote and of `\`, and `\n` for a line feed
abbrev pub escaped : ℕ → List ℕ
escaped byte = cond ((byte == 34) || (byte == 92)) (92 ∷ byte ∷ [])
    (cond (byte == 10) (92 ∷ 110 ∷ []) (byte ∷ []))

-- a piece of a text: bytes, the value of a label, a number, or the seconds that so many nanoseconds
-- are
abbrev pub piece_text : Piece → List ℕ
piece_text (Text bytes) = bytes.now
piece_text (Value bytes) = flat_map escaped bytes.now
piece_text (Number number) = decimal number
piece_text (Seconds nanos) = seconds_text nanos
