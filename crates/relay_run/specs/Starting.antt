-- What a relay is started with, and what it prints.
use Rattle.std.specs.Prelude.{◌⊎◌, ◌≡◌, ℕ, List, [], ◌++◌, codes, decimal, Option, Some, map}
use Rattle.std.specs.Option.{option_map_or}
use Rattle.std.specs.List.{flat_map}
use Rattle.std.specs.contracts.alloc.Global as heap
use Rattle.loop_core.specs.declared.fault.LoopFault.{LoopFault}
use Rattle.loop_core.specs.declared.fault.LoopFault.TheVariants as ends
use Rattle.program_text.specs.declared.status.Status.{Status}
use Rattle.program_text.specs.declared.status.Status.TheVariants.{Done, Usage}
use Rattle.program_text.specs.Lines.{line, memory_line}
use Rattle.program_text.specs.Output.{TakesPart, IsPrinted}
use Rattle.relay_conf.specs.declared.relay.Relay.{Relay}
use Rattle.program_text.specs.Stops.{IsRelayRead, PrintsNoRelay}
use Rattle.relay_run.specs.Running.{PoolEnded, RelayState, Runs, first_fault}

-- all sources do, in the order of the configuration
abbrev pub ready_lines : List ℕ → List ℕ
ready_lines ports = flat_map (λ port. line (codes "ready " ++ decimal port)) ports

-- why a relay ended
abbrev pub fault_line : LoopFault → List ℕ
fault_line ends.Bind = line (codes "fault Bind")
fault_line ends.Path = line (codes "fault Path")
fault_line ends.Poll = line (codes "fault Poll")
fault_line (ends.Buffer _) = line (codes "fault Buffer")
fault_line ends.NoNumber = line (codes "fault NoNumber")
fault_line ends.Memory = memory_line

-- A beginning of the lines of the sources at these ports is printed, or all of them.
pub record PrintsReady (ports : List ℕ) (old new : Option (List ℕ)) : Type 0 where
  pub unseen : List ℕ
  pub takes : TakesPart old new (ready_lines ports) unseen

-- why a relay that was open ended: its pools ran, to the fault of its loop, or else the first of
-- theirs, if there is one; or there was no memory to run it
abbrev pub EndsBy : RelayState → Option LoopFault → Type 0
EndsBy relay ended = ((fault : Option LoopFault) × (pools : List PoolEnded)
    × (map (λ end. end.pool) pools ≡ relay.pools) × (ended ≡ first_fault fault pools))
    ⊎ (ended ≡ Some ends.Memory)

-- A relay that was open ended so: its own sources were printed, or a beginning of their lines, and
-- behind these why it ended.
pub record PrintsEnd (relay : RelayState) (old new : Option (List ℕ))
    (status : Status) : Type 0 where
  pub between : Option (List ℕ)
  pub unseen : List ℕ
  pub ready : TakesPart old between (ready_lines relay.ports) unseen
  pub ended : Option LoopFault
  pub by : EndsBy relay ended
  pub printed : IsPrinted between new (option_map_or fault_line ended [])
      (option_map_or (λ _. Usage) ended Done) status

-- What running this relay, under this number and with its files in this folder, does to a writer:
-- it was opened, and ended so; or it wasn't, and none of its sources is printed, but why.
pub data PrintsRun (folder : List ℕ) (number : ℕ) (relay : Relay heap.the_row.Denot)
    (old new : Option (List ℕ)) (status : Status) : Type 0 where
  opened : (state : RelayState) → Runs folder number relay state → PrintsEnd state old new status
      → PrintsRun folder number relay old new status
  not_opened : (fault : LoopFault) → IsPrinted old new (fault_line fault) Usage status
      → PrintsRun folder number relay old new status

-- All that `relay` does to a writer, and its status: it runs the relay that the configuration
-- describes, under this number and with its files in this folder, or says why there is none.
pub data PrintsRelay (folder : List ℕ) (number : ℕ) (conf old new : Option (List ℕ))
    (status : Status) : Type 0 where
  runs : (relay : Relay heap.the_row.Denot) → IsRelayRead conf relay
      → PrintsRun folder number relay old new status
      → PrintsRelay folder number conf old new status
  refused : PrintsNoRelay conf old new status → PrintsRelay folder number conf old new status
