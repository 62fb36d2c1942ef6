-- The words of the command line.
use Rattle.std.specs.Prelude.{◌≡◌, ℕ, List, [], ◌∷◌, codes, Option, Some, None}
use Rattle.relaynet.specs.declared.words.Word.{Word}
use Rattle.relaynet.specs.declared.words.Word.TheVariants.{Decode, Check, Replay, Relay, Version}

-- the words behind the program's own name say this
abbrev pub Says : Word → List (List ℕ) → Type 0
Says Decode words = words ≡ codes "decode" ∷ []
Says (Check net) words = words ≡ codes "check" ∷ net.now ∷ []
Says (Replay net steps) words = words ≡ codes "replay" ∷ net.now ∷ steps.now ∷ []
Says (Relay conf number dir) words = words ≡ codes "relay" ∷ conf.now ∷ number.now ∷ dir.now ∷ []
Says Version words = words ≡ codes "--version" ∷ []

-- what the command line says, or that it says nothing
abbrev pub IsRead : List (List ℕ) → Option Word → Type 0
IsRead words (Some word) = (name : List ℕ) × (rest : List (List ℕ)) × (words ≡ name ∷ rest)
    × Says word rest
IsRead words None = (name : List ℕ) (rest : List (List ℕ)) (word : Word) → words ≡ name ∷ rest
    → Says word rest → ⊥
