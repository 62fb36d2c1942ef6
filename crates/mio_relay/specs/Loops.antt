-- What a relay's loop keeps.
use Rattle.std.specs.Prelude.{ℕ, ◌≡◌, ◌≤◌, [], false, max, List, Option, IfSome}
use Rattle.ack_receipt.specs.Terms.{Terms}
use Rattle.loop_core.specs.Lanes.{KeepsLanes, LanesState, later_at, listed_at}
use Rattle.loop_core.specs.declared.fault.LoopFault.{LoopFault}
use Rattle.relay_conf.specs.declared.output.BufferNo.{BufferNo}
use Rattle.relay_ports.specs.declared.buffered.BufferedOutput.{BufferedOutput}
use Rattle.relay_sockets.specs.declared.network.NetFault.{NetFault}
use Rattle.relay_sockets.specs.Endpoints.{Endpoint}
use Rattle.mio_relay.specs.Connections.{AreFlushed, AreSettled, ConnectionState, Served}
use Rattle.mio_relay.specs.Turning.{ComesOn, EachKey}

-- a loop: the addresses that were bound, its sources in the order of the configuration, its
-- connections by their keys, its buffers by their places, the same as it uses them, how many
-- numbers deliveries have had, its time in milliseconds, what time its network says that it is,
-- where that is known, the fault of a turn that ended it, if one did, and why its network refuses
-- to wait for sockets, where it is known to
pub record LoopState (A : Type 0) : Type 0 where
  pub bound : List Endpoint
  pub sources : List Served
  pub connections : List (Option ConnectionState)
  pub buffers : List (Terms A)
  pub lanes : LanesState A
  pub numbers : ℕ
  pub time : ℕ
  pub clock : Option ℕ
  pub fault : Option LoopFault
  pub refusal : Option NetFault

-- a relay that listens at its sources: the addresses that were bound, the sources, its number, and
-- its outputs that have buffers
pub record BoundState (A : Type 0) : Type 0 where
  pub bound : List Endpoint
  pub sources : List Served
  pub number : ℕ
  pub outputs : List (BufferedOutput A)

-- what a call leaves as it was; and the numbers of deliveries don't go back
pub record Stays {A : Type 0} (old new : LoopState A) : Type 0 where
  pub bound : new.bound ≡ old.bound
  pub sources : new.sources ≡ old.sources
  pub buffers : new.buffers ≡ old.buffers
  pub lanes : KeepsLanes old.lanes new.lanes
  pub numbers : old.numbers ≤ new.numbers
  pub clock : new.clock ≡ old.clock

-- The time is what the clock says, where that is known; but it doesn't go back.
pub record IsTimeAfter (clock : Option ℕ) (before now : ℕ) : Type 0 where
  pub order : before ≤ now
  pub known : IfSome clock (λ time. now ≡ max time before)

-- What a call does before connections are closed: it is the same time, for the buffers too, and
-- each connection goes on; others came in at this time.
pub record TakesIn {A : Type 0} (old new : LoopState A) : Type 0 where
  pub time : new.time ≡ old.time
  pub lanes_time : new.lanes.time ≡ old.lanes.time
  pub connections : EachKey (ComesOn old.time) old.connections new.connections

-- no delivery waits that didn't: the same appends wait, and the same buffers' receipts come later,
-- and where none waited none does; nor is anything outgoing that a stream would take, where nothing
-- was; and the same chunks are staged at the same time of the buffers
pub record Rests {A : Type 0} (old new : LoopState A) : Type 0 where
  pub waiting : new.lanes.waiting ≡ old.lanes.waiting
  pub later : new.lanes.later ≡ old.lanes.later
  pub settled : AreSettled old.connections → AreSettled new.connections
  pub flushed : AreFlushed old.connections → AreFlushed new.connections
  pub plans : new.lanes.plans ≡ old.lanes.plans
  pub time : new.lanes.time ≡ old.lanes.time
  pub short : new.lanes.short ≡ old.lanes.short

-- appends wait for their receipts only at buffers whose receipts come later
abbrev pub OnlyLaterWait : {A : Type 0} → LanesState A → Type 0
OnlyLaterWait lanes = (buffer : BufferNo) → later_at lanes.later buffer ≡ false
    → listed_at lanes.waiting buffer ≡ []
