-- From what is read and written to what a relay prints.
use Rattle.std.proofs.Common.{◌≡◌, inl, ℕ, List, [], refl, subst, Option, Some, None}
use Rattle.std.specs.contracts.alloc.Global as heap
use Rattle.loop_core.specs.declared.fault.LoopFault.{LoopFault}
use Rattle.program_text.specs.declared.status.Status.{Status}
use Rattle.program_text.specs.declared.status.Status.TheVariants.{Done, Usage}
use Rattle.program_text.specs.Output.{TakesPart, IsPrinted}
use Rattle.relay_conf.specs.declared.relay.Relay.{Relay}
use Rattle.relay_run.specs.Running.{RelayState}
use Rattle.relay_run.specs.Starting.{EndsBy, PrintsEnd, PrintsReady, PrintsRun, fault_line, not_opened, ready_lines}
use Rattle.program_text.proofs.OutputSteps.{TakesPart-none}

-- the lines of these sources are printed, or a beginning of them
pub are_ready : (old new : Option (List ℕ)) (ports text unseen : List ℕ) → text ≡ ready_lines ports → TakesPart old new text unseen → PrintsReady ports old new
are_ready old new ports text unseen is takes = record { unseen = unseen; takes = subst (λ t. TakesPart old new t unseen) is takes }

-- a relay ended by this fault
pub ended_by : (relay : RelayState) (old mid new : Option (List ℕ)) (fault : LoopFault) (line : List ℕ) (status : Status) → PrintsReady relay.ports old mid
    → EndsBy relay (Some fault) → line ≡ fault_line fault → IsPrinted mid new line Usage status → PrintsEnd relay old new status
ended_by relay old mid new fault line status ready by is printed = record {
  between = mid;
  unseen = ready.unseen;
  ready = ready.takes;
  ended = Some fault;
  by = by;
  printed = subst (λ l. IsPrinted mid new l Usage status) is printed;
}

-- a relay ended without one
pub ended_well : (relay : RelayState) (old new : Option (List ℕ)) (ended : Option LoopFault) → PrintsReady relay.ports old new → EndsBy relay ended → ended ≡ None
    → PrintsEnd relay old new Done
ended_well relay old new ended ready by none = record {
  between = new;
  unseen = ready.unseen;
  ready = ready.takes;
  ended = None;
  by = subst (EndsBy relay) none by;
  printed = ([], TakesPart-none new [], inl (refl, refl));
}

-- a relay wasn't opened, for this fault
pub unopened : (folder : List ℕ) (number : ℕ) (relay : Relay heap.the_row.Denot) (old new : Option (List ℕ)) (fault : LoopFault) (line : List ℕ) (status : Status) → line ≡ fault_line fault
    → IsPrinted old new line Usage status → PrintsRun folder number relay old new status
unopened folder number relay old new fault line status is printed = not_opened fault (subst (λ l. IsPrinted old new l Usage status) is printed)
