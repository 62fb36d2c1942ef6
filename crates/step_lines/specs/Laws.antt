-- That a line says one thing, and a text.
use Rattle.std.specs.Prelude.{◌≡◌, ℕ, List, [], ◌∷◌, ◌++◌, Some, None, codes, map}
use Rattle.text_lines.specs.Lines.{text_lines}
use Rattle.step_lines.specs.Texts.{texts_of}
use Rattle.step_lines.specs.declared.step.ChunkName.{ChunkName}
use Rattle.step_lines.specs.declared.step.Step.{Step}
use Rattle.step_lines.specs.declared.step.Step.TheVariants as step
use Rattle.step_lines.specs.StepLines.{Says, SayAll, IsRefusedLine}

-- What a step holds, without where it lies in memory.
pub record Content : Type 0 where
  pub word : List ℕ
  pub numbers : List ℕ
  pub tag : List ℕ
  pub entries : List (List ℕ)

-- a step of numbers alone
abbrev pub numbered : List ℕ → List ℕ → Content
numbered word numbers = record { word = word; numbers = numbers; tag = []; entries = [] }

-- the numbers of a chunk's name
abbrev pub numbers_of : ChunkName → List ℕ
numbers_of name = name.relay ∷ name.buffer ∷ name.serial ∷ []

-- what the step holds: its word, its numbers in the order of its fields, its tag and its entries
abbrev pub content : {A : Type 0} → Step A → Content
content (step.Send client tag entries) =
    record {
      word = codes "send";
      numbers = client ∷ [];
      tag = tag;
      entries = texts_of entries.items;
    }
content (step.Begin message) = numbered (codes "begin") (message ∷ [])
content (step.Append delivery buffer serial) = numbered (codes "append")
    (delivery ∷ buffer ∷ serial ∷ [])
content (step.Ack delivery) = numbered (codes "ack") (delivery ∷ [])
content (step.Abandon delivery) = numbered (codes "abandon") (delivery ∷ [])
content (step.Foreign message) = numbered (codes "foreign") (message ∷ [])
content (step.Enqueue chunk) = numbered (codes "enqueue") (numbers_of chunk)
content (step.Claim chunk) = numbered (codes "claim") (numbers_of chunk)
content (step.Back chunk) = numbered (codes "back") (numbers_of chunk)
content (step.Forward chunk server) = numbered (codes "forward") (numbers_of chunk ++ server ∷ [])
content (step.Seen chunk) = numbered (codes "seen") (numbers_of chunk)
content (step.Write chunk) = numbered (codes "write") (numbers_of chunk)
content (step.Part chunk count) = numbered (codes "part") (numbers_of chunk ++ count ∷ [])
content (step.Purge chunk) = numbered (codes "purge") (numbers_of chunk)
content (step.Done chunk) = numbered (codes "done") (numbers_of chunk)
content (step.Discard chunk) = numbered (codes "discard") (numbers_of chunk)
content (step.Oldest relay buffer) = numbered (codes "oldest") (relay ∷ buffer ∷ [])
content (step.Restart relay) = numbered (codes "restart") (relay ∷ [])

-- Two steps of one line hold the same.
abbrev pub SaysOneStep : Type 0 → Type 0
SaysOneStep A = (line : List ℕ) (a b : Step A) → Says line (Some a) → Says line (Some b)
    → content a ≡ content b

-- A line that says nothing says no step.
abbrev pub SaysNoStepToo : Type 0 → Type 0
SaysNoStepToo A = (line : List ℕ) (a : Step A) → Says {A = A} line None → ¬ (Says line (Some a))

-- Two lists of steps that a text says hold the same, step by step.
abbrev pub HasOneReading : Type 0 → Type 0
HasOneReading A = (text : List ℕ) (one two : List (Step A)) → SayAll (text_lines text) one
    → SayAll (text_lines text) two → map content one ≡ map content two

-- A text is refused for one line alone.
abbrev pub HasOneFault : Type 0 → Type 0
HasOneFault A = (text : List ℕ) (one two : ℕ) → IsRefusedLine A text one → IsRefusedLine A text two
    → one ≡ two

-- A text that says steps is refused for no line.
abbrev pub IsFaultless : Type 0 → Type 0
IsFaultless A = (text : List ℕ) (steps : List (Step A)) (line : ℕ) → SayAll (text_lines text) steps
    → ¬ IsRefusedLine A text line
