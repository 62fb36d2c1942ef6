-- From what is read to the relay that it describes, or why it describes none.
use Rattle.std.proofs.Common.{◌≡◌, ◌⊎◌, inl, inr, ℕ, List, Option, Result, Ok, Err, subst}
use Rattle.std.specs.Prelude.{IfOk, IfErr}
use Rattle.relay_conf.specs.declared.relay.Relay.{Relay}
use Rattle.plan_lines.specs.Plans.{IsRelayOfText}
use Rattle.program_text.specs.declared.relay_text.ConfStop.{ConfStop}
use Rattle.program_text.specs.declared.relay_text.ConfStop.TheVariants as stop
use Rattle.program_text.specs.declared.reading.ReadFault.TheVariants as unread
use Rattle.program_text.specs.declared.status.Status.{Status}
use Rattle.program_text.specs.declared.status.Status.TheVariants.{Usage}
use Rattle.program_text.specs.Output.{IsPrinted}
use Rattle.program_text.specs.Stops.{IsConfStop, IsRelayRead, IsTextStop, PrintsConfStop, PrintsNoRelay, says_text_fault, says_relay_fault, says_stop}
use Rattle.program_text.specs.Texts.{IsTextOf}

-- the text that was read describes the relay
pub relay_read : (A : Type 0) (conf : Option (List ℕ)) (text : List ℕ) (r : Result (Relay A) ConfStop) → IsTextOf conf text → IfOk r (IsRelayOfText text) → IfOk r (IsRelayRead conf)
relay_read A conf text (Ok relay) is of = record { text = text; text_is = is; relay_is = of }
relay_read A conf text (Err stopped) is of = tt

stopped_so : (conf : Option (List ℕ)) (text : List ℕ) (stopped : ConfStop) → IsTextOf conf text → IsTextStop text stopped → IsConfStop conf stopped
stopped_so conf text (stop.Text fault) is of = (text, is, of)
stopped_so conf text (stop.Relay fault) is of = (text, is, of)
stopped_so conf text (stop.Unread fault) is of = tt

-- or it describes none
pub relay_stopped : (A : Type 0) (conf : Option (List ℕ)) (text : List ℕ) (r : Result (Relay A) ConfStop) → IsTextOf conf text → IfErr r (IsTextStop text) → IfErr r (IsConfStop conf)
relay_stopped A conf text (Ok relay) is of = tt
relay_stopped A conf text (Err stopped) is of = stopped_so conf text stopped is of

-- why it describes none is printed
pub none_read : (conf old new : Option (List ℕ)) (stopped : ConfStop) (status : Status) → IsConfStop conf stopped → PrintsConfStop stopped old new status
    → PrintsNoRelay conf old new status
none_read conf old new (stop.Text fault) status is prints = elim prints.said [
  | inl same ↦ says_text_fault is.0 fault is.1 is.2 (subst (λ (l : List ℕ). IsPrinted old new l Usage status) same prints.printed)
  | inr memory ↦ says_stop prints.lines (inl memory) prints.printed
]
none_read conf old new (stop.Relay fault) status is prints = elim prints.said [
  | inl same ↦ says_relay_fault is.0 fault is.1 is.2 (subst (λ (l : List ℕ). IsPrinted old new l Usage status) same prints.printed)
  | inr memory ↦ says_stop prints.lines (inl memory) prints.printed
]
none_read conf old new (stop.Unread unread.Memory) status is prints = says_stop prints.lines (elim prints.said [
  | inl memory ↦ inl memory
  | inr memory ↦ inl memory
]) prints.printed
none_read conf old new (stop.Unread unread.Read) status is prints = says_stop prints.lines (elim prints.said [
  | inl read ↦ inr read
  | inr memory ↦ inl memory
]) prints.printed
