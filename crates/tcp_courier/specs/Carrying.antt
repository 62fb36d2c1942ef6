-- What a courier is, and what it did where a chunk was carried.
use Rattle.std.specs.Prelude.{ℕ, ◌≡◌, ◌*◌, ◌-◌, ◌^◌, min, map, find, option_map, Contains, List, length, Bool, true, false, Option, Some, string_bytes}
use Rattle.ack_receipt.specs.Claims.{Claimed, id_of}
use Rattle.ack_receipt.specs.Evidences.{Shows, Acknowledged, Written}
use Rattle.relay_conf.specs.declared.output.Server.{Server}
use Rattle.relay_conf.specs.declared.output.ForwardSettings.{ForwardSettings}
use Rattle.forward_core.specs.Credentials.{Credentials, credentials_of}
use Rattle.relay_sockets.specs.Drawing.{IsDrawn}
use Rattle.relay_sockets.specs.Endpoints.{Endpoint, Origin, WentTo}
use Rattle.relay_sockets.specs.Traffics.{Traffic, IsFresh}
use Rattle.tcp_courier.specs.Talks.{ConveysChunk, begun}

-- a courier: what it connects by, its servers in listed order, what it shows in handshakes, whether
-- it asks for acknowledgements, and how long it waits, in milliseconds
pub record Sender (N : Type 0) : Type 0 where
  pub dialer : N
  pub servers : List Endpoint
  pub shows : Option Credentials
  pub asks : Bool
  pub timeout : ℕ

-- where a server of a configuration is
abbrev pub endpoint_of : {A : Type 0} → Server A → Endpoint
endpoint_of server = record { host = string_bytes server.host; port = server.port }

-- the courier of an output with these settings, that connects by this dialer
abbrev pub sender_of : {A N : Type 0} → ForwardSettings A → (dialer : N) → Sender N
sender_of settings dialer = record {
  dialer = dialer;
  servers = map endpoint_of settings.servers.items;
  shows = credentials_of settings.security;
  asks = settings.require_ack_response;
  timeout = min (settings.ack_response_timeout * 1_000) (2 ^ 64 - 1);
}

-- the connection went to one of these servers: to the host and the port of the same one
abbrev pub IsToOne : List Endpoint → Origin → Type 0
IsToOne servers origin = Contains (map WentTo servers) origin

-- the connection went to the first of these servers that takes one, or there is none where none
-- does
abbrev pub IsToFirst : (takes : Endpoint → Bool) → List Endpoint → Option Origin → Type 0
IsToFirst takes servers origin = origin ≡ option_map WentTo (find takes servers)

-- The evidence names this chunk: where the output asks for acknowledgements it is that one came,
-- and else that the chunk was written to the connection.
abbrev pub NamesChunk : Bool → Claimed → Shows → Type 0
NamesChunk true claim shown = shown ≡ Acknowledged (id_of claim)
NamesChunk false claim shown = shown ≡ Written (id_of claim)

-- A connection that was new conveyed a chunk, and nothing else: by a session with the courier's own
-- credentials, under a salt that was drawn, with the courier's own wish for an acknowledgement, and
-- as many entries as the chunk has.
pub record Delivers {N : Type 0} (sender : Sender N) (chunk : Claimed)
    (traffic : Traffic) : Type 0 where
  pub new : Traffic
  pub fresh : IsFresh new
  pub salt : List ℕ
  pub drawn : IsDrawn salt
  pub entries : List (List ℕ)
  pub count : length entries ≡ chunk.count
  pub conveys : ConveysChunk new traffic (begun sender.shows salt).phase chunk entries sender.asks

-- What a courier gave for a chunk: evidence that names the chunk; and there is a connection to one
-- of its own servers that conveyed the chunk, and where an acknowledgement is asked for gave one.
pub record IsSent {N S : Type 0} (origin : S → Origin) (traffic : S → Traffic)
    (sender : Sender N) (claim : Claimed) (shown : Shows) : Type 0 where
  pub names : NamesChunk sender.asks claim shown
  pub stream : S
  pub one : IsToOne sender.servers (origin stream)
  pub delivers : Delivers sender claim (traffic stream)
