-- The end of a connection that connects (Forward Protocol Specification v1, "Connection Phases",
-- "Response").
use Rattle.std.specs.Prelude.{ℕ, ◌≡◌, ◌≤◌, ◌⊎◌, List, [], ◌++◌, length, take, drop, Option, Some, None, Bool, true, false, Result, Ok, Err, IsSome, if◌then◌else◌}
use Rattle.std.specs.List.{AllByRecursion, concat}
use Rattle.msgpack_bytes.specs.declared.answers.MsgFault.{MsgFault}
use Rattle.msgpack_bytes.specs.Item.{IsItemWithin, IsOpen}
use Rattle.msgpack_bytes.specs.Kinds.{IsNil}
use Rattle.msgpack_bytes.specs.Fault.{IsFaulty}
use Rattle.auth_handshake.specs.declared.answers.HandshakeFault.{HandshakeFault}
use Rattle.auth_handshake.specs.declared.answers.HandshakeFault.TheVariants.{NotHelo, WrongDigest}
use Rattle.auth_handshake.specs.Messages.{IsHelo}
use Rattle.auth_handshake.specs.Written.{ping_bytes}
use Rattle.auth_handshake.specs.Ends.{ClientEnd, client_digest, IsUnderName, IsVerdict}
use Rattle.event_modes.specs.declared.chunk_id.ChunkId.{ChunkId}
use Rattle.event_modes.specs.ChunkIds.{chunk_text}
use Rattle.event_modes.specs.Acknowledgement.{IsAcknowledgement}
use Rattle.ack_receipt.specs.Evidences.{Shows, Acknowledged}
use Rattle.forward_core.specs.declared.fault.SessionFault.{SessionFault}
use Rattle.forward_core.specs.declared.fault.SessionFault.TheVariants.{Handshake, BadAck, Closed}
use Rattle.forward_core.specs.declared.security.Security.{Security}
use Rattle.forward_core.specs.declared.replies.Reply.{Reply}
use Rattle.forward_core.specs.declared.replies.Reply.TheVariants as reply
use Rattle.forward_core.specs.declared.replies.Heard.{Heard}
use Rattle.forward_core.specs.declared.replies.Heard.TheVariants as heard
use Rattle.forward_core.specs.declared.client_handshake.First.{First}
use Rattle.forward_core.specs.declared.client_handshake.First.TheVariants as first
use Rattle.forward_core.specs.declared.client.Phase.{Phase}
use Rattle.forward_core.specs.declared.client.Phase.TheVariants as phase
use Rattle.forward_core.specs.Handshakes.{IsShown}

-- where a session stands: a HELO has to come first, then a PONG, then a message may be sent, once,
-- under the name of a chunk where it asks for an acknowledgement; or the session is over
pub data ClientPhase : Type 0 where
  AwaitsHelo : (client : ClientEnd) → ClientPhase
  AwaitsPong : (client : ClientEnd) → ClientPhase
  Ready : ClientPhase
  HasSent : (chunk : Option ChunkId) → ClientPhase
  Ended : ClientPhase

-- a session: where it stands, the bytes that it holds unread, and those that are to be sent
pub record ClientState : Type 0 where
  pub phase : ClientPhase
  pub held : List ℕ
  pub outgoing : List ℕ

-- a session that begins: with security a HELO has to come first
abbrev pub initial_client : Option Security → (salt : List ℕ) → ClientState
initial_client None salt = record { phase = Ready; held = []; outgoing = [] }
initial_client (Some security) salt = record {
  phase =
      AwaitsHelo (record {
        host = security.self_hostname.now;
        key = security.shared_key.now;
        salt = salt;
        nonce = None;
      });
  held = [];
  outgoing = [];
}

-- what a session says: this evidence, or that more has to come, or that it is over
pub data Said : Type 0 where
  Sees : (shown : Shows) → Said
  Waits : Said
  Fails : (fault : SessionFault) → Said

-- what a session said, without where it lies in memory
abbrev pub said : {A : Type 0} → Heard A → Said
said (heard.Seen evidence) = Sees evidence
said heard.Wait = Waits
said (heard.Fault fault) = Fails fault

-- the item acknowledges the chunk whose name was sent, if one was
abbrev pub IsAwaited : Option ChunkId → List ℕ → Type 0
IsAwaited None item = ⊥
IsAwaited (Some id) item = IsAcknowledgement item (chunk_text id)

-- an item that is passed over: a heartbeat, or an acknowledgement of another chunk
abbrev pub IsPassed : Option ChunkId → List ℕ → Type 0
IsPassed chunk item = IsNil item
    ⊎ (((content : List ℕ) × IsAcknowledgement item content) × (IsAwaited chunk item → ⊥))

-- the item is neither a heartbeat nor an acknowledgement
abbrev pub IsOther : List ℕ → Type 0
IsOther item = (IsNil item → ⊥) × ((content : List ℕ) → IsAcknowledgement item content → ⊥)

-- no item begins so, or the one that does is neither a heartbeat nor an acknowledgement
abbrev pub IsNoReply : List ℕ → Type 0
IsNoReply bytes = ((why : MsgFault) × IsFaulty why bytes)
    ⊎ ((item : List ℕ) × (more : List ℕ) × IsItemWithin item × IsOther item
    × (bytes ≡ item ++ more))

-- what comes of the first item that isn't passed over: the acknowledgement that is awaited is taken
-- off and is evidence of this chunk; of what is no reply nothing is taken, and the session is over
abbrev pub HearsNext : Option ChunkId → ClientState → List ℕ → Said → ClientState → Type 0
HearsNext chunk old rest (Sees shown) new = (id : ChunkId) × (item : List ℕ) × (more : List ℕ)
    × (chunk ≡ Some id) × (shown ≡ Acknowledged id)
    × IsAcknowledgement item (chunk_text id) × (rest ≡ item ++ more)
    × (new ≡ record old { held = more })
HearsNext chunk old rest Waits new = IsOpen rest × (new ≡ record old { held = rest })
HearsNext chunk old rest (Fails fault) new = (fault ≡ BadAck) × IsNoReply rest
    × (new ≡ record old { phase = Ended; held = rest })

-- replies are read in order, up to the first that isn't passed over
pub record Listens (chunk : Option ChunkId) (old : ClientState) (says : Said)
    (new : ClientState) : Type 0 where
  pub items : List (List ℕ)
  pub rest : List ℕ
  pub passed : AllByRecursion (IsPassed chunk) items
  pub whole : old.held ≡ concat items ++ rest
  pub next : HearsNext chunk old rest says new

-- too little has come of the first item
abbrev pub IsWaiting : ClientState → Said → ClientState → Type 0
IsWaiting old says new = IsOpen old.held × (says ≡ Waits) × (new ≡ old)

-- the handshake failed, and the session is over
abbrev pub IsFailing : HandshakeFault → ClientState → Said → ClientState → Type 0
IsFailing fault old says new = (says ≡ Fails (Handshake fault))
    × (new ≡ record old { phase = Ended })

-- What a session makes of an item that should be a PONG: what the client's end does. But it takes
-- none under the client's own name, since whoever has no key can send the client's own digest back
-- under that.
abbrev pub IsJudged : ClientEnd → List ℕ → Result Unit HandshakeFault → Type 0
IsJudged client item (Ok _) = IsVerdict client item (Ok tt) × (IsUnderName item client.host → ⊥)
IsJudged client item (Err fault) = IsVerdict client item (Err fault)
    ⊎ ((fault ≡ WrongDigest) × IsVerdict client item (Ok tt) × IsUnderName item client.host)

-- the first item is a PONG that lets the client in, and what is behind it is read as replies; or it
-- is refused
abbrev pub ReadsPong : ClientEnd → ClientState → Said → ClientState → Type 0
ReadsPong client old says new = IsWaiting old says new
    ⊎ (((item : List ℕ) × (more : List ℕ) × IsShown old.held item more
    × IsJudged client item (Ok tt)
    × Listens None (record old { phase = Ready; held = more }) says new)
    ⊎ ((item : List ℕ) × (more : List ℕ) × (fault : HandshakeFault) × IsShown old.held item more
    × IsJudged client item (Err fault)
    × IsFailing fault old says new))

-- a session that took a HELO with this nonce: the PING is to be sent
abbrev pub greeted : ClientEnd → List ℕ → List ℕ → ClientState → ClientState
greeted client nonce more old = record {
  phase = AwaitsPong (record client { nonce = Some nonce });
  held = more;
  outgoing = old.outgoing ++ ping_bytes client.host client.salt (client_digest client nonce);
}

-- the first item is a HELO, to which the PING is sent, and what is behind it is read as a PONG; or
-- it is refused
abbrev pub ReadsHelo : ClientEnd → ClientState → Said → ClientState → Type 0
ReadsHelo client old says new = IsWaiting old says new
    ⊎ (((item : List ℕ) × (more : List ℕ) × (nonce : List ℕ) × IsShown old.held item more
    × IsHelo item nonce
    × ReadsPong (record client { nonce = Some nonce }) (greeted client nonce more old) says new)
    ⊎ ((item : List ℕ) × (more : List ℕ) × IsShown old.held item more
    × ((nonce : List ℕ) → IsHelo item nonce → ⊥)
    × IsFailing NotHelo old says new))

-- what a session makes of all that it holds unread
abbrev pub ReadsAll : ClientPhase → ClientState → Said → ClientState → Type 0
ReadsAll (AwaitsHelo client) old says new = ReadsHelo client old says new
ReadsAll (AwaitsPong client) old says new = ReadsPong client old says new
ReadsAll Ready old says new = Listens None old says new
ReadsAll (HasSent chunk) old says new = Listens chunk old says new
ReadsAll Ended old says new = ⊥

-- what a session makes of a piece: what was held unread and the piece are read together; one that
-- is over takes nothing
abbrev pub ClientReads : ClientState → List ℕ → Said → ClientState → Type 0
ClientReads old piece says new = ((old.phase ≡ Ended) × (says ≡ Fails Closed) × (new ≡ old))
    ⊎ ReadsAll old.phase (record old { held = old.held ++ piece }) says new

-- the name that a message is sent under, if it asks for an acknowledgement
abbrev pub named : Bool → ChunkId → Option ChunkId
named ask id = if ask then Some id else None

-- where a session stands, without where it lies in memory
abbrev pub phase_of : {A : Type 0} → Phase A → Bool → ClientPhase
phase_of (phase.Shaking client) false = AwaitsHelo client
phase_of (phase.Shaking client) true = AwaitsPong client
phase_of phase.Ready was_greeted = Ready
phase_of (phase.Sent chunk) was_greeted = HasSent chunk
phase_of phase.Closed was_greeted = Ended

-- a client that awaits a PONG has a nonce
abbrev pub HasNonce : {A : Type 0} → Phase A → Bool → Type 0
HasNonce (phase.Shaking client) true = IsSome client.nonce
HasNonce _ _ = Unit {0}

-- the name that was sent, if one was
abbrev pub awaited : ClientPhase → Option ChunkId
awaited (HasSent chunk) = chunk
awaited _ = None

-- what one item is to a client that awaits the acknowledgement of this chunk
abbrev pub IsReply : {A : Type 0} → Option ChunkId → List ℕ → Reply A → Type 0
IsReply chunk item (reply.Seen evidence) = (id : ChunkId) × (chunk ≡ Some id)
    × (evidence ≡ Acknowledged id) × IsAcknowledgement item (chunk_text id)
IsReply chunk item reply.Passed = IsPassed chunk item
IsReply chunk item reply.Other = IsOther item

-- where a session stands after what it says
abbrev pub phase_if : Said → ClientPhase → ClientPhase
phase_if (Sees shown) phase = phase
phase_if Waits phase = phase
phase_if (Fails fault) phase = Ended

-- the first n bytes were passed over or taken, and this is said of them
pub record IsHeard (chunk : Option ChunkId) (bytes : List ℕ) (n : ℕ) (says : Said) : Type 0 where
  pub within : n ≤ length bytes
  pub hears : (old : ClientState) → old.held ≡ bytes
      → Listens chunk old says (record old { phase = phase_if says old.phase; held = drop n bytes })

-- what a client makes of what should be a HELO
abbrev pub TakesHelo : ClientEnd → List ℕ → List ℕ → First → ClientEnd → List ℕ → Type 0
TakesHelo client outgoing bytes (first.Taken n) new sends = (n ≤ length bytes)
    × ((nonce : List ℕ) × IsShown bytes (take n bytes) (drop n bytes)
    × IsHelo (take n bytes) nonce × (new ≡ record client { nonce = Some nonce })
    × (sends ≡ outgoing ++ ping_bytes client.host client.salt (client_digest client nonce)))
TakesHelo client outgoing bytes first.Waits new sends = IsOpen bytes × (new ≡ client)
    × (sends ≡ outgoing)
TakesHelo client outgoing bytes (first.Refused fault) new sends = (fault ≡ NotHelo)
    × ((item : List ℕ) × (more : List ℕ) × IsShown bytes item more
    × ((nonce : List ℕ) → IsHelo item nonce → ⊥)) × (new ≡ client) × (sends ≡ outgoing)

-- what a client makes of what should be a PONG
abbrev pub TakesPong : ClientEnd → List ℕ → First → Type 0
TakesPong client bytes (first.Taken n) = (n ≤ length bytes) × IsShown bytes (take n bytes)
    (drop n bytes) × IsJudged client (take n bytes) (Ok tt)
TakesPong client bytes first.Waits = IsOpen bytes
TakesPong client bytes (first.Refused fault) = (item : List ℕ) × (more : List ℕ)
    × IsShown bytes item more × IsJudged client item (Err fault)
