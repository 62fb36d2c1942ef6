-- A relay with the whole of its loop, as the steps between its start and its end see it.
use Rattle.std.specs.Prelude.{ℕ, ◌≡◌, All, List, map, Option}
use Rattle.std.specs.contracts.alloc.Global as heap
use Rattle.loop_core.specs.declared.fault.LoopFault.{LoopFault}
use Rattle.ack_receipt.specs.Terms.{Terms}
use Rattle.loop_core.specs.Buffers.{AreBuffersOf}
use Rattle.loop_core.specs.Owners.{Owned}
use Rattle.mio_relay.specs.Connections.{ArePortsOf, served_as}
use Rattle.mio_relay.specs.Loops.{BoundState, LoopState}
use Rattle.relay_ports.specs.declared.buffered.BufferedOutput.{BufferedOutput}
use Rattle.relay_ports.specs.Setups.{Setup}
use Rattle.relay_run.specs.Running.{IsCarrierOf, IsPoolOf, PoolEnded, PoolState, RelayState}

-- an output, its buffer, and where that lies
abbrev pub Placed : Type 0
Placed = BufferedOutput heap.the_row.Denot × Terms heap.the_row.Denot × Option (List ℕ)

-- those of what was opened
abbrev pub placed_as : Owned heap.the_row.Denot → Placed
placed_as job = (job.output, job.terms, job.path)

-- those of what delivers its chunks
abbrev pub placed_in : PoolState → Placed
placed_in pool = (pool.output, pool.terms, pool.path)

-- its chunks are carried as the output's settings say, to files in this folder
abbrev pub IsCarried : (folder : List ℕ) → PoolState → Type 0
IsCarried folder pool = IsCarrierOf folder pool.output pool.carrier

-- a relay that runs: its loop, the ports of its sources, and what delivers the chunks of its
-- outputs
pub record RunningState : Type 0 where
  pub turning : LoopState heap.the_row.Denot
  pub ports : List ℕ
  pub pools : List PoolState

-- what is said of it
abbrev pub relay_of : RunningState → RelayState
relay_of running = record {
  sources = running.turning.sources;
  bound = running.turning.bound;
  buffers = running.turning.buffers;
  ports = running.ports;
  pools = running.pools;
}

-- a relay that ran: its loop, its ports, the fault that the loop ended with, and how its pools
-- ended
pub record RanState : Type 0 where
  pub turning : LoopState heap.the_row.Denot
  pub ports : List ℕ
  pub fault : Option LoopFault
  pub pools : List PoolEnded

-- what ran
abbrev pub started_as : RanState → RunningState
started_as ran = record {
  turning = ran.turning;
  ports = ran.ports;
  pools = map (λ end. end.pool) ran.pools;
}

-- A relay that listens goes on to run, with its files in this folder. It takes messages in at the
-- same sources and addresses, it has a buffer for each of its outputs, and each output has what
-- delivers its chunks, from the very buffer that the loop has for it.
pub record Continues (folder : List ℕ) (bound : BoundState heap.the_row.Denot)
    (relay : RelayState) : Type 0 where
  pub sources : relay.sources ≡ bound.sources
  pub listens : relay.bound ≡ bound.bound
  pub ports : ArePortsOf bound.sources relay.ports
  pub buffers : AreBuffersOf bound.number bound.outputs relay.buffers
  pub outputs : map (λ pool. pool.output) relay.pools ≡ bound.outputs
  pub shared : map (λ pool. pool.terms) relay.pools ≡ relay.buffers
  pub pools : All (IsPoolOf folder) relay.pools

-- A relay listens at the address of each source of this setup, and nowhere else, and has its number
-- and its outputs.
pub record IsBoundAs (setup : Setup heap.the_row.Denot)
    (bound : BoundState heap.the_row.Denot) : Type 0 where
  pub sources : bound.sources ≡ map (served_as setup.number setup.table) setup.sources
  pub listens : bound.bound ≡ map (λ source. source.endpoint) bound.sources
  pub number : bound.number ≡ setup.number
  pub outputs : bound.outputs ≡ setup.outputs

-- What runs listened as the setup says, and went on so.
pub record IsOpened (folder : List ℕ) (setup : Setup heap.the_row.Denot)
    (relay : RelayState) : Type 0 where
  pub bound : BoundState heap.the_row.Denot
  pub is : IsBoundAs setup bound
  pub continues : Continues folder bound relay
