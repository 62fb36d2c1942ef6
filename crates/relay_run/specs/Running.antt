-- A relay that runs, and which relay it is.
use Rattle.std.specs.Prelude.{ℕ, ◌≡◌, All, List, ◌∷◌, map, slice_get, option_to_list, Option, Some, None, Result, Ok, Err, option_map, string_bytes}
use Rattle.std.specs.List.{flat_map}
use Rattle.std.specs.contracts.alloc.Global as heap
use Rattle.buffer_store.specs.declared.fault.BufferFault.{BufferFault}
use Rattle.buffer_store.specs.declared.fault.BufferFault.TheVariants as store
use Rattle.ack_receipt.specs.Claims.{Claimed}
use Rattle.ack_receipt.specs.Evidences.{Shows}
use Rattle.ack_receipt.specs.Terms.{Terms}
use Rattle.flush_pool.specs.declared.gate.OpenGate.{OpenGate}
use Rattle.flush_pool.specs.Acts.{at}
use Rattle.flush_pool.specs.Carriages.{IsStoredFor}
use Rattle.flush_pool.specs.Rounds.{HaveWorked}
use Rattle.flush_pool.specs.declared.worked.Worked.{Worked}
use Rattle.relay_conf.specs.declared.relay.Relay.{Relay}
use Rattle.route_graph.specs.Table.{table_of}
use Rattle.loop_core.specs.declared.fault.LoopFault.{LoopFault}
use Rattle.loop_core.specs.declared.fault.LoopFault.TheVariants as ends
use Rattle.relay_ports.specs.declared.buffered.BufferedOutput.{BufferedOutput}
use Rattle.relay_ports.specs.declared.buffered.BufferedOutput.TheVariants.{Forward, File}
use Rattle.relay_ports.specs.Outputs.{settings_of, outputs_in}
use Rattle.loop_core.specs.Buffers.{AreBuffersOf}
use Rattle.loop_core.specs.Folders.{path_for}
use Rattle.relay_sockets.specs.Endpoints.{Endpoint, Origin}
use Rattle.relay_sockets.specs.Traffics.{Traffic}
use Rattle.tcp_courier.specs.Carrying.{IsSent, sender_of}
use Rattle.mio_relay.specs.Connections.{ArePortsOf, Served, served_as}
use Rattle.relay_run.specs.declared.flush.Carrier.{Carrier}
use Rattle.relay_run.specs.declared.flush.Carrier.TheVariants.{Servers, Sink}

-- what delivers an output's chunks: the output, the buffer that has them, in which folder of the
-- system, if it isn't in memory, and what carries them
pub record PoolState : Type 0 where
  pub output : BufferedOutput heap.the_row.Denot
  pub terms : Terms heap.the_row.Denot
  pub path : Option (List ℕ)
  pub carrier : Carrier

-- The output's chunks are carried by a courier to its servers, as its settings say; or to the sink
-- that was opened by the name of its path, in the folder that was made for it, which is that of the
-- system with this path.
abbrev pub IsCarrierOf : {A : Type 0} → (folder : List ℕ) → BufferedOutput A → Carrier → Type 0
IsCarrierOf folder (Forward settings) (Servers sender) = sender ≡ sender_of settings sender.dialer
IsCarrierOf folder (File settings) (Sink courier placed) =
    (courier.path ≡ string_bytes settings.path) × (courier.folder ≡ placed.value.dir)
    × (option_map string_bytes placed.value.path ≡ Some folder)
IsCarrierOf folder _ _ = ⊥

-- This delivers the chunks of an output as the output's settings say, from and to files in this
-- folder.
abbrev pub IsPoolOf : (folder : List ℕ) → PoolState → Type 0
IsPoolOf folder pool = (pool.path ≡ path_for folder (settings_of pool.output).kind)
    × IsCarrierOf folder pool.output pool.carrier

-- What this gave for a chunk, over connections with these origins and this traffic: by a courier,
-- what that gives of a chunk that was sent to one of its servers; and of a sink, that the chunk's
-- entries are in it.
abbrev pub IsCarriedBy : {S : Type 0} → (origin : S → Origin) → (traffic : S → Traffic)
    → Carrier → Claimed → Shows → Type 0
IsCarriedBy origin traffic (Servers sender) claim shown = IsSent origin traffic sender claim shown
IsCarriedBy origin traffic (Sink courier placed) claim shown = IsStoredFor claim shown

-- a relay that runs: its sources, the addresses at which its loop listens, the buffers that its
-- loop has, the ports of its sources, and what delivers the chunks of its outputs
pub record RelayState : Type 0 where
  pub sources : List Served
  pub bound : List Endpoint
  pub buffers : List (Terms heap.the_row.Denot)
  pub ports : List ℕ
  pub pools : List PoolState

-- a pool that ended, and how: with what its workers did together, or with the fault of the first
-- that has one
pub record PoolEnded : Type 0 where
  pub pool : PoolState
  pub done : Result Worked BufferFault

-- any chunk may be carried at any time
abbrev pub LetsAll : OpenGate → ℕ → Type 0
LetsAll gate serial = Unit {0}

-- So ended as many workers as the pool has threads, at its own buffer, with its own carrier and the
-- retry settings of its output, where each of them had done nothing.
abbrev pub HaveEnded : {S : Type 0} → (origin : S → Origin) → (traffic : S → Traffic)
    → PoolEnded → Type 0
HaveEnded origin traffic end = (gate : OpenGate)
    × HaveWorked LetsAll (IsCarriedBy origin traffic)
    (at end.pool.terms end.pool.carrier gate (settings_of end.pool.output).retry)
    (settings_of end.pool.output).flush_thread_count end.done

-- the fault of a relay whose workers at a buffer ended so
abbrev pub fault_of : Result Worked BufferFault → Option LoopFault
fault_of (Ok worked) = None
fault_of (Err store.Memory) = Some ends.Memory
fault_of (Err fault) = Some (ends.Buffer fault)

-- this fault, or else that of the first pool that ended with one
abbrev pub first_fault : Option LoopFault → List PoolEnded → Option LoopFault
first_fault fault pools =
    slice_get (flat_map option_to_list (fault ∷ map (λ pool. fault_of pool.done) pools)) 0

-- What runs is this relay, whole, under this number and with its files in this folder. It takes
-- messages in at the address of each of its sources, and nowhere else; it has a buffer for each of
-- its outputs that have one, and each of these has what delivers its chunks, from the very buffer
-- that the loop has for it.
pub record Runs (folder : List ℕ) (number : ℕ) (relay : Relay heap.the_row.Denot)
    (state : RelayState) : Type 0 where
  pub sources : state.sources ≡ map (served_as number (table_of relay)) relay.sources.items
  pub listens : state.bound ≡ map (λ source. source.endpoint) state.sources
  pub ports : ArePortsOf state.sources state.ports
  pub buffers : AreBuffersOf number (outputs_in relay.scopes.items) state.buffers
  pub outputs : map (λ pool. pool.output) state.pools ≡ outputs_in relay.scopes.items
  pub shared : map (λ pool. pool.terms) state.pools ≡ state.buffers
  pub pools : All (IsPoolOf folder) state.pools
