-- Steps as lines of a text.
use Rattle.std.specs.Prelude.{◌≡◌, ℕ, ◌+◌, ◌≤◌, ◌==◌, ◌||◌, not, Bool, ⊤, List, [], ◌∷◌, ◌++◌, length, filter, Option, Some, None, Ok, slice_get, codes}
use Rattle.std.specs.Str.{IsUtf8}
use Rattle.std.specs.List.{AllZip, filter_map, slice_split}
use Rattle.conf_values.specs.Numbers.{number_of}
use Rattle.hex.specs.Hex.{decode_of}
use Rattle.text_lines.specs.Lines.{text_lines}
use Rattle.step_lines.specs.Texts.{texts_of}
use Rattle.step_lines.specs.declared.step.ChunkName.{ChunkName}
use Rattle.step_lines.specs.declared.lines.Line.{Line}
use Rattle.step_lines.specs.declared.lines.Line.TheVariants as line
use Rattle.step_lines.specs.declared.lines.StepsError.{StepsError}
use Rattle.step_lines.specs.declared.lines.StepsError.TheVariants as error
use Rattle.step_lines.specs.declared.step.Step.{Step}
use Rattle.step_lines.specs.declared.step.Step.TheVariants as step
use Rattle.tag_pattern.specs.Parts.{most_tag_bytes}

-- a space or a tab
abbrev pub is_blank : ℕ → Bool
is_blank b = (b == 32) || (b == 9)

-- the fields of a line, which blanks part
abbrev pub words_of : List ℕ → List (List ℕ)
words_of line = filter (λ word. not (length word == 0)) (slice_split is_blank line)

-- The word spells the number: one or more decimal digits, whose value is below 2 to the 64th. A
-- greater value is no number.
abbrev pub IsNumber : List ℕ → ℕ → Type 0
IsNumber word n = number_of word ≡ Some n

-- The word is RELAY/BUFFER/SERIAL, in numbers.
abbrev pub IsChunkName : List ℕ → ChunkName → Type 0
IsChunkName word name = AllZip IsNumber (slice_split (λ b. b == 47) word)
    (name.relay ∷ name.buffer ∷ name.serial ∷ [])

-- The fields are this word, and others that are these numbers.
abbrev pub AreNumbers : List ℕ → List (List ℕ) → List ℕ → Type 0
AreNumbers name words numbers =
    (fields : List (List ℕ)) × (words ≡ name ∷ fields) × AllZip IsNumber fields numbers

-- The fields are this word, one that names the chunk, and others that are these numbers.
abbrev pub AreOfChunk : List ℕ → List (List ℕ) → ChunkName → List ℕ → Type 0
AreOfChunk name words chunk numbers =
    (word : List ℕ) × (fields : List (List ℕ)) × (words ≡ name ∷ word ∷ fields)
    × IsChunkName word chunk × AllZip IsNumber fields numbers

-- The fields are those of the step. Each entry is spelled in hex, in digits of either case.
abbrev pub IsStepOf : {A : Type 0} → List (List ℕ) → Step A → Type 0
IsStepOf words (step.Send client tag entries) = (number : List ℕ) × (texts : List (List ℕ))
    × (words ≡ codes "send" ∷ number ∷ tag ∷ texts) × IsNumber number client
    × (length tag ≤ most_tag_bytes)
    × AllZip (λ word entry. decode_of word ≡ Ok entry) texts (texts_of entries.items)
IsStepOf words (step.Begin message) = AreNumbers (codes "begin") words (message ∷ [])
IsStepOf words (step.Append delivery buffer serial) = AreNumbers (codes "append") words
    (delivery ∷ buffer ∷ serial ∷ [])
IsStepOf words (step.Ack delivery) = AreNumbers (codes "ack") words (delivery ∷ [])
IsStepOf words (step.Abandon delivery) = AreNumbers (codes "abandon") words (delivery ∷ [])
IsStepOf words (step.Foreign message) = AreNumbers (codes "foreign") words (message ∷ [])
IsStepOf words (step.Enqueue chunk) = AreOfChunk (codes "enqueue") words chunk []
IsStepOf words (step.Claim chunk) = AreOfChunk (codes "claim") words chunk []
IsStepOf words (step.Back chunk) = AreOfChunk (codes "back") words chunk []
IsStepOf words (step.Forward chunk server) = AreOfChunk (codes "forward") words chunk (server ∷ [])
IsStepOf words (step.Seen chunk) = AreOfChunk (codes "seen") words chunk []
IsStepOf words (step.Write chunk) = AreOfChunk (codes "write") words chunk []
IsStepOf words (step.Part chunk count) = AreOfChunk (codes "part") words chunk (count ∷ [])
IsStepOf words (step.Purge chunk) = AreOfChunk (codes "purge") words chunk []
IsStepOf words (step.Done chunk) = AreOfChunk (codes "done") words chunk []
IsStepOf words (step.Discard chunk) = AreOfChunk (codes "discard") words chunk []
IsStepOf words (step.Oldest relay buffer) = AreNumbers (codes "oldest") words
    (relay ∷ buffer ∷ [])
IsStepOf words (step.Restart relay) = AreNumbers (codes "restart") words (relay ∷ [])

-- The fields are those of no step.
abbrev pub NoStep : (A : Type 0) → List (List ℕ) → Type 0
NoStep A words = (s : Step A) → ¬ (IsStepOf words s)

-- the words that one number follows
abbrev pub number_words : List (List ℕ)
number_words = codes "begin" ∷ codes "ack" ∷ codes "abandon" ∷ codes "foreign" ∷ codes "restart"
    ∷ []

-- the words that a chunk's name follows
abbrev pub chunk_words : List (List ℕ)
chunk_words = codes "enqueue" ∷ codes "claim" ∷ codes "back" ∷ codes "seen" ∷ codes "write"
    ∷ codes "purge" ∷ codes "done" ∷ codes "discard" ∷ []

-- the words that a chunk's name and a number follow
abbrev pub counted_words : List (List ℕ)
counted_words = codes "forward" ∷ codes "part" ∷ []

-- The word is none of these.
abbrev pub IsNoneOf : List ℕ → List (List ℕ) → Type 0
IsNoneOf word [] = ⊤
IsNoneOf word (other ∷ others) = (¬ (word ≡ other)) × IsNoneOf word others

-- A line that says nothing: it is empty, or its first field begins with `#`.
abbrev pub SaysNothing : List (List ℕ) → Type 0
SaysNothing [] = Unit {0}
SaysNothing (word ∷ words) = slice_get word 0 ≡ Some 35

-- What the line says: a step, or nothing. A line is UTF-8.
abbrev pub Says : {A : Type 0} → List ℕ → Option (Step A) → Type 0
Says line None = IsUtf8 line × SaysNothing (words_of line)
Says line (Some s) = IsUtf8 line × IsStepOf (words_of line) s

-- The line says neither a step nor nothing.
abbrev pub IsBad : (A : Type 0) → List ℕ → Type 0
IsBad A line = (said : Option (Step A)) → ¬ (Says line said)

-- what the code answers of a line
abbrev pub IsSaid : {A : Type 0} → List ℕ → Line A → Type 0
IsSaid text (line.Step s) = Says text (Some s)
IsSaid {A} text line.Nothing = Says {A = A} text None
IsSaid {A} text line.Bad = IsBad A text

-- The lines say these steps, in their order: each says one or nothing.
pub record SayAll {A : Type 0} (lines : List (List ℕ)) (steps : List (Step A)) : Type 0 where
  pub each : List (Option (Step A))
  pub says : AllZip Says lines each
  pub steps_are : filter_map (λ s. s) each ≡ steps

-- Of the text's lines the one of this number, counted from 1, says neither a step nor nothing, and
-- each line before it says one: it is the first such line.
pub record IsRefusedLine (A : Type 0) (text : List ℕ) (number : ℕ) : Type 0 where
  pub before : List (List ℕ)
  pub refused : List ℕ
  pub others : List (List ℕ)
  pub lines_are : text_lines text ≡ before ++ refused ∷ others
  pub number_is : number ≡ length before + 1
  pub is_bad : IsBad A refused
  pub steps : List (Step A)
  pub said : SayAll before steps

-- why steps are refused: a line that says neither a step nor nothing, or want of memory
abbrev pub IsBadLine : (A : Type 0) → List ℕ → StepsError → Type 0
IsBadLine A text (error.BadLine number) = IsRefusedLine A text number
IsBadLine A text error.Memory = Unit {0}
