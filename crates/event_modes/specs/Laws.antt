-- What holds of messages and streams.
use Rattle.std.specs.Prelude.{ℕ, ◌≡◌, List}
use Rattle.msgpack_bytes.specs.Kinds.{IsNil}
use Rattle.event_modes.specs.Message.{Parts, IsMessage}
use Rattle.event_modes.specs.Stream.{Arrival, IsStream}

-- an item means at most one message
abbrev pub MeansOne : Type 0
MeansOne = (bytes : List ℕ) (one other : Parts) → IsMessage bytes one → IsMessage bytes other
    → one ≡ other

-- a heartbeat is no message
abbrev pub IsNeverBoth : Type 0
IsNeverBoth = (bytes : List ℕ) (parts : Parts) → IsMessage bytes parts → IsNil bytes → ⊥

-- bytes are one stream only: there is one way to read them
abbrev pub ReadsOneWay : Type 0
ReadsOneWay = (bytes : List ℕ) (arrivals others : List Arrival) (rest end : List ℕ)
    → IsStream bytes arrivals rest → IsStream bytes others end → (arrivals ≡ others) × (rest ≡ end)
