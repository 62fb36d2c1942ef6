-- The messages that come on a connection (Forward Protocol Specification v1, "Message Modes").
use Rattle.std.specs.Prelude.{ℕ, List, [], ◌∷◌, Option, Some, None, ◌≡◌}
use Rattle.msgpack_bytes.specs.Item.{IsOpen}
use Rattle.event_modes.specs.declared.fault.ModeFault.{ModeFault}
use Rattle.event_modes.specs.Message.{Parts}
use Rattle.event_modes.specs.Stream.{Arrival, Sent, Heartbeat, Splits}
use Rattle.event_modes.specs.Faults.{StreamFault}

-- the messages among what came, in order: a heartbeat only keeps the connection alive
abbrev pub messages_in : List Arrival → List Parts
messages_in [] = []
messages_in (Sent parts ∷ more) = parts ∷ messages_in more
messages_in (Heartbeat ∷ more) = messages_in more

-- where the messages end: with no bytes or the beginning of an item, or else with this fault
abbrev pub EndsSo : List ℕ → Option ModeFault → Type 0
EndsSo rest None = IsOpen rest
EndsSo rest (Some fault) = StreamFault rest fault

-- the bytes are these messages in this order, heartbeats left out, and then a rest in which none is
-- whole
pub record IsStreamOf (bytes : List ℕ) (messages : List Parts) (rest : List ℕ)
    (fault : Option ModeFault) : Type 0 where
  pub arrivals : List Arrival
  pub splits : Splits bytes arrivals rest
  pub are : messages ≡ messages_in arrivals
  pub ends : EndsSo rest fault
