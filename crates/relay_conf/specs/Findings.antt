-- What is examined, in its order, and what of it is a fault.
use Rattle.std.specs.Prelude.{◌≡◌, ⊤, ℕ, ◌⊎◌, List, [], ◌∷◌, Result, Ok, Err}
use Rattle.std.specs.List.{AllByRecursion}
use Rattle.tag_pattern.specs.Grammar.{Slot, IsPattern}
use Rattle.relay_conf.specs.declared.fault.RelayFaultKind.{RelayFaultKind}
use Rattle.relay_conf.specs.declared.fault.RelayFaultKind.TheVariants as kinds
use Rattle.relay_conf.specs.declared.fault.RelayFault.{RelayFault}
use Rattle.relay_conf.specs.declared.fault.RelayError.{RelayError}
use Rattle.relay_conf.specs.declared.fault.RelayError.TheVariants as errors

-- What is found where a configuration is gone through: a fault, or a text in a line that is one
-- unless it is a pattern.
pub data Finding : Type 0 where
  a_fault : RelayFaultKind → ℕ → Finding
  a_pattern : List ℕ → ℕ → Finding

-- nothing is wrong
abbrev pub Passes : Finding → Type 0
Passes (a_fault kind line) = ⊥
Passes (a_pattern text line) = (slots : List Slot) × IsPattern slots text

-- the finding is this fault
abbrev pub Stands : Finding → RelayFault → Type 0
Stands (a_fault kind line) f = f ≡ record { kind = kind; line = line }
Stands (a_pattern text line) f = ((slots : List Slot) → ¬ IsPattern slots text)
    × (f ≡ record { kind = kinds.BadValue; line = line })

-- nothing is wrong anywhere
abbrev pub AllPass : List Finding → Type 0
AllPass findings = AllByRecursion Passes findings

-- some finding is this fault, and nothing is wrong before it
abbrev pub FirstStands : List Finding → RelayFault → Type 0
FirstStands [] f = ⊥
FirstStands (x ∷ xs) f = Stands x f ⊎ (Passes x × FirstStands xs f)

-- an error is the first fault, or that memory ran out
abbrev pub Refuses : List Finding → RelayError → Type 0
Refuses findings errors.Memory = ⊤
Refuses findings (errors.Fault f) = FirstStands findings f

-- a call that goes through the findings: nothing is wrong, or it answers the first fault, or memory
-- ran out
abbrev pub Examines : {X : Type 0} → List Finding → Result X RelayError → Type 0
Examines findings (Ok x) = AllPass findings
Examines findings (Err e) = Refuses findings e
