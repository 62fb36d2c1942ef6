-- What becomes of a configuration.
use Rattle.std.specs.Prelude.{ℕ, List}
use Rattle.program_text.specs.declared.relay_text.ConfStop.{ConfStop}
use Rattle.program_text.specs.declared.relay_text.ConfStop.TheVariants as stop
use Rattle.conf_listing.specs.declared.outcome.AdaptedConf.{AdaptedConf}
use Rattle.conf_listing.specs.declared.outcome.AdaptedConf.TheVariants as outcome
use Rattle.conf_listing.specs.Answers.{IsAdapted, IsStopTo, IsUndecided}

-- the fault of a text, or of the lines of its draft, which isn't want of memory
abbrev pub IsFaultOf : (A : Type 0) → List ℕ → List (List ℕ) → ConfStop → Type 0
IsFaultOf A text names (stop.Unread fault) = ⊥
IsFaultOf A text names stopped = IsStopTo A text names stopped

-- What becomes of a text: a configuration that a relay reads, each of whose changes is accepted; or
-- what isn't accepted; or a fault.
abbrev pub IsAdaptedConf : (A : Type 0) → List ℕ → List (List ℕ) → AdaptedConf A → Type 0
IsAdaptedConf A text names (outcome.Text found) = IsAdapted A text names found.text.items
IsAdaptedConf A text names (outcome.Undecided found) = IsUndecided A text names found.text.items
IsAdaptedConf A text names (outcome.Faulty stopped) = IsFaultOf A text names stopped
