-- A relay's configuration that is read, and what is printed where none is.
use Rattle.std.specs.Prelude.{◌≡◌, ◌⊎◌, ℕ, List, ◌++◌, codes, Option}
use Rattle.conf_text.specs.Grammar.{HasFault as HasTextFault}
use Rattle.conf_text.specs.Printed.{fault_text as text_fault_text}
use Rattle.conf_text.specs.declared.fault.ConfFault.{ConfFault}
use Rattle.relay_conf.specs.Printed.{fault_text as relay_fault_text}
use Rattle.relay_conf.specs.declared.fault.RelayFault.{RelayFault}
use Rattle.relay_conf.specs.declared.relay.Relay.{Relay}
use Rattle.plan_lines.specs.Plans.{IsRelayOfText}
use Rattle.plan_lines.specs.Faults.{HasRelayFault}
use Rattle.program_text.specs.declared.relay_text.ConfStop.{ConfStop}
use Rattle.program_text.specs.declared.relay_text.ConfStop.TheVariants as stop
use Rattle.program_text.specs.declared.reading.ReadFault.TheVariants as unread
use Rattle.program_text.specs.declared.status.Status.{Status}
use Rattle.program_text.specs.declared.status.Status.TheVariants.{Usage}
use Rattle.program_text.specs.Lines.{line, memory_line, read_line, unread_line}
use Rattle.program_text.specs.Output.{IsPrinted}
use Rattle.program_text.specs.Texts.{IsTextOf}

-- What is read.

-- The text that is read describes this relay.
pub record IsRelayRead {A : Type 0} (conf : Option (List ℕ)) (relay : Relay A) : Type 0 where
  pub text : List ℕ
  pub text_is : IsTextOf conf text
  pub relay_is : IsRelayOfText text relay

-- the text describes no relay, and this is its first fault; or memory ran out
abbrev pub IsTextStop : List ℕ → ConfStop → Type 0
IsTextStop text (stop.Text fault) = HasTextFault text fault.kind fault.line
IsTextStop text (stop.Relay fault) = HasRelayFault text fault
IsTextStop text (stop.Unread fault) = fault ≡ unread.Memory

-- why no relay is read
abbrev pub IsConfStop : Option (List ℕ) → ConfStop → Type 0
IsConfStop conf (stop.Text fault) = (text : List ℕ) × IsTextOf conf text
    × HasTextFault text fault.kind fault.line
IsConfStop conf (stop.Relay fault) = (text : List ℕ) × IsTextOf conf text × HasRelayFault text fault
IsConfStop conf (stop.Unread fault) = Unit {0}

-- What is printed.

-- the line of a fault of the configuration
abbrev pub stop_line : ConfStop → List ℕ
stop_line (stop.Text fault) = line (codes "fault " ++ text_fault_text fault)
stop_line (stop.Relay fault) = line (codes "fault " ++ relay_fault_text fault)
stop_line (stop.Unread fault) = unread_line fault

-- What is said of a stop is printed; where there is no memory for its line, that is said.
pub record PrintsConfStop (stopped : ConfStop) (old new : Option (List ℕ))
    (status : Status) : Type 0 where
  pub lines : List ℕ
  pub said : (lines ≡ stop_line stopped) ⊎ (lines ≡ memory_line)
  pub printed : IsPrinted old new lines Usage status

-- No relay is read, and why is printed: the first fault of the text, or of what it says; or that
-- memory ran out, or that the reader failed.
pub data PrintsNoRelay (conf old new : Option (List ℕ)) (status : Status) : Type 0 where
  says_text_fault : (text : List ℕ) (fault : ConfFault) → IsTextOf conf text
      → HasTextFault text fault.kind fault.line
      → IsPrinted old new (line (codes "fault " ++ text_fault_text fault)) Usage status
      → PrintsNoRelay conf old new status
  says_relay_fault : (text : List ℕ) (fault : RelayFault) → IsTextOf conf text
      → HasRelayFault text fault
      → IsPrinted old new (line (codes "fault " ++ relay_fault_text fault)) Usage status
      → PrintsNoRelay conf old new status
  says_stop : (lines : List ℕ) → (lines ≡ memory_line) ⊎ (lines ≡ read_line)
      → IsPrinted old new lines Usage status → PrintsNoRelay conf old new status
