-- What goes over a connection, both ways, while a chunk is delivered (Forward Protocol
-- Specification v1, "Connection Phases", "Response").
use Rattle.std.specs.Prelude.{ℕ, ◌≡◌, ◌⊎◌, List, [], ◌∷◌, ◌++◌, Option, Some, None, option_map, Ok, Bool, true}
use Rattle.std.specs.List.{AllByRecursion, concat}
use Rattle.auth_handshake.specs.Written.{ping_bytes}
use Rattle.msgpack_bytes.specs.Item.{IsItemWithin}
use Rattle.auth_handshake.specs.Messages.{IsHelo}
use Rattle.auth_handshake.specs.Ends.{client_digest}
use Rattle.event_modes.specs.declared.chunk_id.ChunkId.{ChunkId}
use Rattle.event_modes.specs.ChunkIds.{chunk_text}
use Rattle.event_modes.specs.Acknowledgement.{IsAcknowledgement}
use Rattle.event_modes.specs.Packed.{packed_message}
use Rattle.ack_receipt.specs.Claims.{Claimed, id_of}
use Rattle.ack_receipt.specs.Evidences.{Shows}
use Rattle.forward_core.specs.Client.{ClientPhase, AwaitsHelo, AwaitsPong, Ready, ClientState, ClientReads, IsJudged, Sees, Waits, named}
use Rattle.forward_core.specs.Credentials.{Credentials}
use Rattle.relay_sockets.specs.Traffics.{Traffic, Conveys}

-- what came is what the session makes this of; where it made nothing of it, nothing came and the
-- session is as it was, or more has to come
abbrev pub Hears : ClientState → (came : List ℕ) → Option Shows → ClientState → Type 0
Hears was came (Some shown) is = ClientReads was came (Sees shown) is
Hears was came None is = ((came ≡ []) × (is ≡ was)) ⊎ ClientReads was came Waits is

-- a session that begins: with credentials a HELO has to come first
abbrev pub begun : Option Credentials → (salt : List ℕ) → ClientState
begun None salt = record { phase = Ready; held = []; outgoing = [] }
begun (Some shows) salt = record {
  phase = AwaitsHelo (record { host = shows.host; key = shows.key; salt = salt; nonce = None });
  held = [];
  outgoing = [];
}

-- a session with nothing outgoing and nothing held
abbrev pub IsBare : ClientState → Type 0
IsBare state = (state.outgoing ≡ []) × (state.held ≡ [])

-- whole items
abbrev pub AreItems : List (List ℕ) → Type 0
AreItems items = AllByRecursion IsItemWithin items

-- What a session says before its message, and the items by which that is answered: where a HELO has
-- to come first, its PING to the nonce of that, and then a PONG that lets it in and shows the key;
-- where a PONG has to come, nothing more; and else nothing, whatever comes.
abbrev pub IsGreeting : ClientPhase → (said : List ℕ) → (items : List (List ℕ)) → Type 0
IsGreeting (AwaitsHelo client) said items = (nonce : List ℕ) × (helo : List ℕ) × (pong : List ℕ)
    × (more : List (List ℕ))
    × IsHelo helo nonce × IsJudged (record client { nonce = Some nonce }) pong (Ok tt)
    × (said ≡ ping_bytes client.host client.salt (client_digest client nonce))
    × (items ≡ helo ∷ pong ∷ more)
IsGreeting (AwaitsPong client) said items = (pong : List ℕ) × (more : List (List ℕ))
    × IsJudged client pong (Ok tt) × (said ≡ []) × (items ≡ pong ∷ more)
IsGreeting _ said items = said ≡ []

-- A session and its connection go on. What was outgoing and what is added to it was sent, but for
-- what is outgoing now; and these items were read off what was held and what came, but for what is
-- held now.
pub record TalksOn (old new : Traffic) (was is : ClientState) (added : List ℕ)
    (items : List (List ℕ)) : Type 0 where
  pub sent : List ℕ
  pub came : List ℕ
  pub conveys : Conveys old new sent came
  pub out : was.outgoing ++ added ≡ sent ++ is.outgoing
  pub framed : AreItems items
  pub held : was.held ++ came ≡ concat items ++ is.held

-- behind whole items of the bytes comes an acknowledgement of this chunk
pub record Acknowledges (id : ChunkId) (bytes : List ℕ) : Type 0 where
  pub items : List (List ℕ)
  pub framed : AreItems items
  pub item : List ℕ
  pub behind : List ℕ
  pub is : IsAcknowledgement item (chunk_text id)
  pub whole : bytes ≡ concat items ++ (item ++ behind)

-- The connection took the greeting that is due, then the message with these entries under the
-- chunk's tag, and nothing else. What it gave begins with the items by which the greeting is
-- answered; where an acknowledgement is asked for, the message has the chunk's name, and one of the
-- chunk is an item of what came.
pub record ConveysChunk (old new : Traffic) (begins : ClientPhase) (chunk : Claimed)
    (entries : List (List ℕ)) (asks : Bool) : Type 0 where
  pub greeting : List ℕ
  pub items : List (List ℕ)
  pub came : List ℕ
  pub rest : List ℕ
  pub greets : IsGreeting begins greeting items
  pub framed : AreItems items
  pub whole : came ≡ concat items ++ rest
  pub conveys : Conveys old new (greeting
      ++ packed_message chunk.tag entries (option_map chunk_text (named asks (id_of chunk)))) came
  pub answered : asks ≡ true → Acknowledges (id_of chunk) came
