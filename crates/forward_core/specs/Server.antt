-- The end of a connection that listens (Forward Protocol Specification v1, "Connection Phases").
use Rattle.std.specs.Prelude.{ℕ, ◌≡◌, ◌≤◌, ◌<◌, ◌⊎◌, Bool, true, false, List, [], ◌∷◌, ◌++◌, length, map, drop, Option, Some, None, Contains}
use Rattle.msgpack_bytes.specs.Item.{IsOpen}
use Rattle.ack_receipt.specs.Reservations.{Asked, asked_of, Reservation}
use Rattle.auth_handshake.specs.declared.answers.HandshakeFault.{HandshakeFault}
use Rattle.auth_handshake.specs.declared.answers.HandshakeFault.TheVariants.{NotPing}
use Rattle.auth_handshake.specs.declared.answers.Ping.TheVariants.{Passed, Refused}
use Rattle.auth_handshake.specs.Ends.{ServerEnd, IsAnswer}
use Rattle.auth_handshake.specs.Written.{helo_bytes}
use Rattle.event_modes.specs.declared.fault.ModeFault.{ModeFault}
use Rattle.event_modes.specs.Message.{Parts}
use Rattle.forward_core.specs.declared.fault.SessionFault.TheVariants.{BadStream, Handshake}
use Rattle.forward_core.specs.declared.taken.Standing.{Standing}
use Rattle.forward_core.specs.declared.taken.Standing.TheVariants as stage
use Rattle.forward_core.specs.declared.taken.TakenItem.{TakenItem}
use Rattle.forward_core.specs.declared.security.Security.{Security}
use Rattle.forward_core.specs.declared.server.Phase.{Phase}
use Rattle.forward_core.specs.declared.server.Phase.TheVariants as phase
use Rattle.forward_core.specs.Demands.{Wanted, Delivers, Closes, wanted, asked_in}
use Rattle.forward_core.specs.Handshakes.{IsShown}
use Rattle.forward_core.specs.Streams.{IsStreamOf}

-- where a session stands: its HELO is out and a PING has to come first, or messages may come, or it
-- is over
pub data ServerPhase : Type 0 where
  Awaiting : (server : ServerEnd) → ServerPhase
  Opened : ServerPhase
  Over : ServerPhase

-- what bytes come to: where the session stands then, what of them is left unread,
-- what is sent, and what is wanted of the one who runs the session
pub record Outcome : Type 0 where
  pub phase : ServerPhase
  pub rest : List ℕ
  pub sends : List ℕ
  pub wants : List Wanted

-- a fault of the stream ends the session
abbrev pub phase_by : Option ModeFault → ServerPhase
phase_by None = Opened
phase_by (Some fault) = Over

-- and wants the connection closed
abbrev pub close_by : Option ModeFault → List Wanted
close_by None = []
close_by (Some fault) = Closes (BadStream fault) ∷ []

-- an open session wants the stream's messages delivered, in order, and then, where a fault stands,
-- the connection closed; it sends nothing by itself but what the handshake sent
pub record ReadsOn (sends bytes : List ℕ) (out : Outcome) : Type 0 where
  pub messages : List Parts
  pub rest : List ℕ
  pub fault : Option ModeFault
  pub stream : IsStreamOf bytes messages rest fault
  pub is : out ≡ record {
    phase = phase_by fault;
    rest = rest;
    sends = sends;
    wants = map Delivers messages ++ close_by fault;
  }

-- how many bytes may come at most before the PING is whole
abbrev pub most_before_ping : ℕ
most_before_ping = 65536

-- too little has come of the first item, and not too much
pub record Waits (server : ServerEnd) (bytes : List ℕ) (out : Outcome) : Type 0 where
  pub begun : IsOpen bytes
  pub within : length bytes ≤ most_before_ping
  pub is : out ≡ record { phase = Awaiting server; rest = bytes; sends = []; wants = [] }

-- the first item is a PING that shows the key: the PONG is sent, and what is behind the PING is
-- read as messages
pub record LetsIn (server : ServerEnd) (bytes : List ℕ) (out : Outcome) : Type 0 where
  pub item : List ℕ
  pub more : List ℕ
  pub pong : List ℕ
  pub shown : IsShown bytes item more
  pub passed : IsAnswer server item Passed pong
  pub reads : ReadsOn pong more out

-- the first item is another, or shows another key: the PONG that says so is sent, and the
-- connection is to be closed
pub record ShutsOut (server : ServerEnd) (bytes : List ℕ) (out : Outcome) : Type 0 where
  pub item : List ℕ
  pub more : List ℕ
  pub pong : List ℕ
  pub fault : HandshakeFault
  pub shown : IsShown bytes item more
  pub refused : IsAnswer server item (Refused fault) pong
  pub is : out ≡ record {
    phase = Over;
    rest = bytes;
    sends = pong;
    wants = Closes (Handshake fault) ∷ [];
  }

-- The first item isn't whole, and more has come of it than may: nothing is sent, none of it is
-- kept, and the connection is to be closed.
pub record Overruns (bytes : List ℕ) (out : Outcome) : Type 0 where
  pub begun : IsOpen bytes
  pub past : most_before_ping < length bytes
  pub is : out ≡ record {
    phase = Over;
    rest = [];
    sends = [];
    wants = Closes (Handshake NotPing) ∷ [];
  }

-- what the bytes come to while a PING has to come first
abbrev pub Greets : ServerEnd → List ℕ → Outcome → Type 0
Greets server bytes out = Waits server bytes out
    ⊎ (LetsIn server bytes out ⊎ (ShutsOut server bytes out ⊎ Overruns bytes out))

-- A session that stands so may wait for more behind these bytes, which only begin an item.
abbrev pub MayWait : ServerPhase → List ℕ → Type 0
MayWait (Awaiting server) bytes = length bytes ≤ most_before_ping
MayWait Opened bytes = Unit {0}
MayWait Over bytes = Unit {0}

-- whether a PING has to come first
abbrev pub awaits_ping : ServerPhase → Bool
awaits_ping (Awaiting server) = true
awaits_ping Opened = false
awaits_ping Over = false

-- what all bytes that a session holds unread come to; one that is over reads nothing
abbrev pub ServerReads : ServerPhase → List ℕ → Outcome → Type 0
ServerReads (Awaiting server) bytes out = Greets server bytes out
ServerReads Opened bytes out = ReadsOn [] bytes out
ServerReads Over bytes out = ⊥

-- a session: where it stands, the bytes that it holds unread, those that are to be sent,
-- what each message asked for that was demanded to be delivered, and the answers that were taken
pub record ServerState : Type 0 where
  pub phase : ServerPhase
  pub held : List ℕ
  pub outgoing : List ℕ
  pub asked : List Asked
  pub taken : List Reservation

-- a session after what came of the bytes that it held
abbrev pub after : ServerState → Outcome → ServerState
after session out = record {
  phase = out.phase;
  held = out.rest;
  outgoing = session.outgoing ++ out.sends;
  asked = session.asked ++ asked_in out.wants;
  taken = session.taken;
}

-- a session with nothing but what is to be sent
abbrev pub idle_server : ServerPhase → List ℕ → ServerState
idle_server phase outgoing = record {
  phase = phase;
  held = [];
  outgoing = outgoing;
  asked = [];
  taken = [];
}

-- a session that begins: with security the HELO is to be sent, and a PING has to come first
abbrev pub initial_server : Option Security → (nonce : List ℕ) → ServerState
initial_server None nonce = idle_server Opened []
initial_server (Some security) nonce =
    idle_server
    (Awaiting (record {
      host = security.self_hostname.now;
      key = security.shared_key.now;
      nonce = nonce;
    })) (helo_bytes nonce)

-- where a session stands, without where it lies in memory
abbrev pub phase_of : {A : Type 0} → Phase A → ServerPhase
phase_of (phase.Awaiting server) = Awaiting server
phase_of phase.Open = Opened
phase_of phase.Closed = Over

-- a message that is to be delivered stands among those that asked
abbrev pub IsAskedIn : List Asked → Wanted → Type 0
IsAskedIn asked (Delivers parts) = Contains asked (asked_of parts)
IsAskedIn asked (Closes fault) = Unit {0}

-- where a session stands after a step of its code
abbrev pub phase_at : ServerPhase → Standing → ServerPhase
phase_at before stage.Same = before
phase_at before stage.Open = Opened
phase_at before stage.Closed = Over

-- what the code found, without where it lies in memory
abbrev pub outcome_of : {A : Type 0} → ServerPhase → List ℕ → TakenItem A → Outcome
outcome_of before bytes taken = record {
  phase = phase_at before taken.stage;
  rest = drop taken.len bytes;
  sends = taken.sends.items;
  wants = map wanted taken.demands.items;
}
