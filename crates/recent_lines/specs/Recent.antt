-- Which lines are kept.
use Rattle.std.specs.Prelude.{ℕ, ◌≡◌, ◌-◌, ◌⊎◌, Bool, true, false, List, [], ◌∷◌, take, Contains}
use Rattle.std.specs.List.{concat}
use Rattle.sha2.specs.Sha256.{sha256}
use Rattle.recent_lines.specs.Lines.{AreLines}

-- The lines that were kept last: how many there are at most, and their digests (SHA-256), that of
-- the last one first.
pub record Recent : Type 0 where
  pub most : ℕ
  pub digests : List (List ℕ)

-- none is remembered yet
abbrev pub none_recent : Recent
none_recent = record { most = 1000000; digests = [] }

-- the line repeats one of them: it has the same digest
abbrev pub IsRepeat : Recent → List ℕ → Type 0
IsRepeat recent line = Contains recent.digests (sha256 line)

-- they and this line, where there were too many without the first of them
abbrev pub remembering : Recent → List ℕ → Recent
remembering recent line =
    record { most = recent.most; digests = sha256 line ∷ take (recent.most - 1) recent.digests }

-- whether a line repeats none of them, and which are the last then
abbrev pub IsTold : Recent → List ℕ → Bool → Recent → Type 0
IsTold recent line true now = (IsRepeat recent line → ⊥) × (now ≡ remembering recent line)
IsTold recent line false now = IsRepeat recent line × (now ≡ recent)

-- Of these lines, one after another, those are kept that repeat none of the lines kept last before
-- them.
abbrev pub AreKept : Recent → List (List ℕ) → List (List ℕ) → Recent → Type 0
AreKept recent [] kept now = (kept ≡ []) × (now ≡ recent)
AreKept recent (line ∷ lines) kept now =
    (IsRepeat recent line × AreKept recent lines kept now)
    ⊎ ((IsRepeat recent line → ⊥)
    × ((others : List (List ℕ)) × (kept ≡ line ∷ others)
    × AreKept (remembering recent line) lines others now))

-- Of the lines of a text, one after another, this is the text of those that are kept.
pub record Keeps (recent : Recent) (text kept : List ℕ) (now : Recent) : Type 0 where
  pub lines : List (List ℕ)
  pub are : AreLines text lines
  pub left : List (List ℕ)
  pub each : AreKept recent lines left now
  pub kept_is : kept ≡ concat left
