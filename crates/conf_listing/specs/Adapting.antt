-- From a configuration that runs in Fluentd to one that a relay reads.
use Rattle.std.specs.Prelude.{◌≡◌, ◌&&◌, ◌==◌, ℕ, List, ◌∷◌, Some, if◌then◌else◌}
use Rattle.conf_text.specs.Trees.{Tree, trees}
use Rattle.conf_listing.specs.Items.{all_stand_for, items_of}
use Rattle.conf_listing.specs.Printed.{all_accepted}
use Rattle.plan_lines.specs.Plans.{IsRelayOfText}
use Rattle.relay_conf.specs.declared.relay.Relay.{Relay}
use Rattle.program_text.specs.Stops.{IsConfStop}
use Rattle.program_text.specs.declared.relay_text.ConfStop.{ConfStop}
use Rattle.program_text.specs.declared.relay_text.ConfStop.TheVariants as stop
use Rattle.conf_listing.specs.declared.draft.Draft.{Draft}
use Rattle.conf_listing.specs.Lines.{AreLines}

-- a text behind its byte order mark, the bytes ef, bb and bf; the text itself where it has none
abbrev pub behind_mark : List ℕ → List ℕ
behind_mark (a ∷ b ∷ c ∷ rest) = if a == 239 && (b == 187 && c == 191) then rest
    else a ∷ b ∷ c ∷ rest
behind_mark text = text

-- These elements are adapted: each of their sections and parameters has a row, in their order, and
-- the lines are those of the rows; whether all is accepted that has to be, is as it says.
pub record IsDraft {A : Type 0} (elements : List Tree) (names : List (List ℕ))
    (draft : Draft A) : Type 0 where
  pub accounted : all_stand_for draft.adapted.entries.items ≡ items_of (trees elements)
  pub accepted : draft.is_accepted ≡ all_accepted names draft.adapted.entries.items
  pub lines_are : AreLines draft.is_accepted draft.adapted.entries.items draft.lines.items

-- a relay reads the lines
abbrev pub DescribesRelay : (A : Type 0) → List ℕ → Type 0
DescribesRelay A lines = (relay : Relay A) × IsRelayOfText lines relay

-- two reasons are of one kind: they may differ in the line
abbrev pub AreOneKind : ConfStop → ConfStop → Type 0
AreOneKind (stop.Text fault) (stop.Text other) = fault.kind ≡ other.kind
AreOneKind (stop.Relay fault) (stop.Relay other) = fault.kind ≡ other.kind
AreOneKind (stop.Unread fault) (stop.Unread other) = fault ≡ other
AreOneKind _ _ = ⊥

-- a reason of the kind for which no relay reads the lines
abbrev pub IsStopOfLines : List ℕ → ConfStop → Type 0
IsStopOfLines lines stopped = (found : ConfStop) × IsConfStop (Some lines) found
    × AreOneKind found stopped
