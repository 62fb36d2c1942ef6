-- The connections of a relay's loop, and the sources that they came in at.
use Rattle.std.specs.Prelude.{ℕ, zero, suc, ◌≡◌, ◌<◌, ◌≤◌, ◌+◌, ◌⊎◌, ◌++◌, Bool, false, true, List, [], length, map, Option, Some, IfSome, slice_get, slice_index_or, string_bytes}
use Rattle.std.specs.List.{All, AllZip}
use Rattle.relay_conf.specs.declared.relay.Relay.{Relay}
use Rattle.relay_conf.specs.declared.relay.Source.{Source}
use Rattle.route_graph.specs.Table.{Table, table_of}
use Rattle.forward_core.specs.declared.security.Security.{Security}
use Rattle.forward_core.specs.Server.{Over, ServerState, awaits_ping, initial_server}
use Rattle.forward_core.specs.Credentials.{Credentials, credentials_in, credentials_of}
use Rattle.relay_ports.specs.Leaves.{Entry}
use Rattle.relay_sockets.specs.Endpoints.{Endpoint, Origin, CameAt, IsPortOf}
use Rattle.relay_sockets.specs.Traffics.{Traffic, Conveys}
use Rattle.loop_core.specs.Peers.{IsRead, PeerState}

-- a source as clients meet it: where it listens, where its messages go, and what it asks its
-- clients to prove
pub record Served : Type 0 where
  pub endpoint : Endpoint
  pub entry : Entry
  pub asks : Option Credentials

-- a source of that relay: it listens at its address, and asks for its key
abbrev pub served_as : {A : Type 0} → ℕ → Table → Source A → Served
served_as number table source = record {
  endpoint = record { host = string_bytes source.bind; port = source.port };
  entry = record {
    number = number;
    table = table;
    scope = source.label.0;
    prefix = source.prefix;
  };
  asks = credentials_of source.security;
}

-- the sources of the relay with this number
abbrev pub sources_of : {A : Type 0} → ℕ → Relay A → List Served
sources_of number relay = map (served_as number (table_of relay)) relay.sources.items

-- a source with its listener's number
pub record Hosted : Type 0 where
  pub number : ℕ
  pub source : Served

-- the sources of these
abbrev pub sources_in : List Hosted → List Served
sources_in hosted = map (λ h. h.source) hosted

-- What was bound are the addresses of the sources, in their order, and nothing else; and each
-- listener has the number of its place.
pub record AreListening (bound : List Endpoint) (hosted : List Hosted) : Type 0 where
  pub own : bound ≡ map (λ h. h.source.endpoint) hosted
  pub numbered : (place : ℕ) → IfSome (slice_get hosted place) (λ h. h.number ≡ place)

-- these are the ports of these sources, one for each, in their order
abbrev pub ArePortsOf : List Served → List ℕ → Type 0
ArePortsOf sources ports = AllZip (λ source port. IsPortOf port source.endpoint) sources ports

-- a connection: where it came in, and when, by the time of the loop in milliseconds; what went over
-- it, as far as that is known, and its session; whether its stream failed, whether it takes no
-- bytes for now, and whether its client has ended its sending, and all of that was read
pub record ConnectionState : Type 0 where
  pub origin : Origin
  pub came : ℕ
  pub traffic : Traffic
  pub peer : PeerState
  pub is_broken : Bool
  pub is_blocked : Bool
  pub has_ended : Bool

-- a connection goes on: it came in where and when it did, and its messages go where they went
pub record IsSameConnection (old new : ConnectionState) : Type 0 where
  pub origin : new.origin ≡ old.origin
  pub came : new.came ≡ old.came
  pub entry : new.peer.entry ≡ old.peer.entry

-- What was outgoing was written from its beginning on, and is outgoing still but for that.
abbrev pub IsWrittenOn : ConnectionState → ConnectionState → Type 0
IsWrittenOn old new = (sent : List ℕ)
    × (old.peer.session.outgoing ≡ sent ++ new.peer.session.outgoing)
    × Conveys old.traffic new.traffic sent []

-- These bytes came over a connection, whose session doesn't know of them yet.
pub record Brings (old new : ConnectionState) (came : List ℕ) : Type 0 where
  pub origin : new.origin ≡ old.origin
  pub since : new.came ≡ old.came
  pub peer : new.peer ≡ old.peer
  pub conveys : Conveys old.traffic new.traffic [] came

-- The session read what came behind what it held unread, unless it had met a fault before.
abbrev pub Hears : (came : List ℕ) → ServerState → ServerState → Type 0
Hears came old new = IsRead came old new ⊎ ((old.phase ≡ Over) × (new ≡ old))

-- Bytes came over a connection, or none, and its session was told all of them and nothing else;
-- where some of them may be lost, the connection is broken.
pub record IsReceived (old new : ConnectionState) : Type 0 where
  pub came : List ℕ
  pub conveys : Conveys old.traffic new.traffic [] came
  pub told : ((came ≡ []) × (new.peer ≡ old.peer))
      ⊎ (Hears came old.peer.session new.peer.session ⊎ (new.is_broken ≡ true))

-- how many bytes may be outgoing at most, where a connection is read
abbrev pub most_outgoing : ℕ
most_outgoing = 1048576

-- A connection may be read: its stream didn't fail, its session wants more, and its client takes
-- what is outgoing.
pub record MayRead (connection : ConnectionState) : Type 0 where
  pub whole : connection.is_broken ≡ false
  pub wants : connection.peer.closing ≡ false
  pub taken : length connection.peer.session.outgoing ≤ most_outgoing

-- how many pieces a turn reads from a connection at most
abbrev pub most_pieces : ℕ
most_pieces = 4

-- So many pieces came over a connection, one after another: each while it might be read, and the
-- session was told each before the next one came.
abbrev pub AreReceived : ℕ → ConnectionState → ConnectionState → Type 0
AreReceived zero old new = new ≡ old
AreReceived (suc pieces) old new = (between : ConnectionState) × AreReceived pieces old between
    × MayRead between × IsReceived between new

-- what is outgoing was written, as far as the stream takes it for now
abbrev pub IsFlushed : ConnectionState → Type 0
IsFlushed connection = (connection.peer.session.outgoing ≡ [])
    ⊎ ((connection.is_broken ≡ true) ⊎ (connection.is_blocked ≡ true))

-- no delivery of a connection waits
abbrev pub IsSettled : ConnectionState → Type 0
IsSettled connection = connection.peer.waits ≡ []

-- A connection is done: no delivery of it waits; nothing more is read, since its stream failed, its
-- session wants no more or its client has ended its sending; and what is outgoing was written, or
-- is of a session that wants no more and whose client takes none for now.
pub record IsDone (connection : ConnectionState) : Type 0 where
  pub settled : IsSettled connection
  pub over : (connection.is_broken ≡ true)
      ⊎ ((connection.peer.closing ≡ true) ⊎ (connection.has_ended ≡ true))
  pub written : (connection.peer.session.outgoing ≡ [])
      ⊎ ((connection.is_broken ≡ true)
      ⊎ ((connection.peer.closing ≡ true) × (connection.is_blocked ≡ true)))

-- how long a client has to show the key, in milliseconds
abbrev pub time_for_ping : ℕ
time_for_ping = 10000

-- A connection is late at this time: its client hasn't shown the key that it has to show, and the
-- time for that is over.
pub record IsLate (time : ℕ) (connection : ConnectionState) : Type 0 where
  pub awaits : awaits_ping connection.peer.session.phase ≡ true
  pub past : connection.came + time_for_ping < time

-- A connection may be closed at this time: it is done, or late.
abbrev pub MayClose : ℕ → ConnectionState → Type 0
MayClose time connection = IsDone connection ⊎ IsLate time connection

-- A connection is served as one of the source at whose listener it came in.
pub record IsServed (sources : List Served) (connection : ConnectionState) : Type 0 where
  pub place : ℕ
  pub came : connection.origin ≡ CameAt place
  pub source : Served
  pub is : slice_get sources place ≡ Some source
  pub entry : connection.peer.entry ≡ source.entry

-- so is each of these
abbrev pub AreServed : List Served → List (Option ConnectionState) → Type 0
AreServed sources slots = All (λ slot. IfSome slot (IsServed sources)) slots

-- what is at a key stays served as it was, if there is something
abbrev pub GoesOn : Option ConnectionState → Option ConnectionState → Type 0
GoesOn old new = (sources : List Served) → IfSome old (IsServed sources)
    → IfSome new (IsServed sources)

-- and so does what is at each key
abbrev pub GoOn : List (Option ConnectionState) → List (Option ConnectionState) → Type 0
GoOn old new = (sources : List Served) → AreServed sources old → AreServed sources new

-- this holds of what is at each key that is below this one
abbrev pub AllBelow : (Option ConnectionState → Type 0) → ℕ → List (Option ConnectionState) → Type 0
AllBelow P end slots = (key : ℕ) (none : Option ConnectionState) → key < end → key < length slots
    → P (slice_index_or slots key none)

-- no delivery waits at a key, whatever is there
abbrev pub HoldsNone : Option ConnectionState → Type 0
HoldsNone slot = IfSome slot IsSettled

-- none waits at each of these keys
abbrev pub AreSettled : List (Option ConnectionState) → Type 0
AreSettled slots = All HoldsNone slots

-- nor at each that is below this
abbrev pub AreSettledBelow : ℕ → List (Option ConnectionState) → Type 0
AreSettledBelow end slots = AllBelow HoldsNone end slots

-- what is outgoing at a key was written, as far as its stream takes it
abbrev pub HoldsFlushed : Option ConnectionState → Type 0
HoldsFlushed slot = IfSome slot IsFlushed

-- so it was at each of these keys
abbrev pub AreFlushed : List (Option ConnectionState) → Type 0
AreFlushed slots = All HoldsFlushed slots

-- and at each that is below this
abbrev pub AreFlushedBelow : ℕ → List (Option ConnectionState) → Type 0
AreFlushedBelow end slots = AllBelow HoldsFlushed end slots

-- what is at a key isn't late at this time
abbrev pub HoldsInTime : ℕ → Option ConnectionState → Type 0
HoldsInTime time slot = IfSome slot (λ connection. IsLate time connection → ⊥)

-- so it is at each of these keys
abbrev pub AreInTime : ℕ → List (Option ConnectionState) → Type 0
AreInTime time slots = All (HoldsInTime time) slots

-- and at each that is below this
abbrev pub AreInTimeBelow : ℕ → ℕ → List (Option ConnectionState) → Type 0
AreInTimeBelow time end slots = AllBelow (HoldsInTime time) end slots

-- A session that begins: its messages go where the source's do, and its client has to prove the
-- source's key, if it has one.
pub record BeginsAt (source : Served) (nonce : List ℕ) (peer : PeerState) : Type 0 where
  pub security : Option Security
  pub asks : credentials_in security ≡ source.asks
  pub begins : peer ≡ record {
    entry = source.entry;
    session = initial_server security nonce;
    waits = [];
    closing = false;
  }
