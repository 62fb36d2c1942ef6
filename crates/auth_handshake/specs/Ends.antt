-- The two ends of a handshake, and what they answer (Fluentd Forward Protocol v1, "Handshake
-- Messages").
use Rattle.std.specs.Prelude.{ℕ, ◌≡◌, List, codes, true, false, Option, Result, Ok, Err, IsSomeAnd}
use Rattle.auth_handshake.specs.declared.answers.HandshakeFault.{HandshakeFault}
use Rattle.auth_handshake.specs.declared.answers.HandshakeFault.TheVariants.{NotPing, WrongDigest, NotPong, RefusedByServer}
use Rattle.auth_handshake.specs.declared.answers.Ping.{Ping}
use Rattle.auth_handshake.specs.declared.answers.Ping.TheVariants.{Passed, Refused}
use Rattle.auth_handshake.specs.Digest.{digest_of}
use Rattle.auth_handshake.specs.Messages.{Asked, IsPing, Told, IsPong}
use Rattle.auth_handshake.specs.Written.{pong_bytes, refusal_bytes}

-- the most bytes of a host name
abbrev pub longest_host : ℕ
longest_host = 1024

-- the server's end: its host name, the shared key, and the nonce of this connection
pub record ServerEnd : Type 0 where
  pub host : List ℕ
  pub key : List ℕ
  pub nonce : List ℕ

-- the client's end: its host name, the shared key, the salt of this connection,
-- and the server's nonce once its HELO was taken
pub record ClientEnd : Type 0 where
  pub host : List ℕ
  pub key : List ℕ
  pub salt : List ℕ
  pub nonce : Option (List ℕ)

-- the PING's digest is the one that the server's key gives
abbrev pub ShowsKey : ServerEnd → Asked → Type 0
ShowsKey server says = says.digest ≡ digest_of says.salt says.host server.nonce server.key

-- the digest by which the server shows that it has the key too
abbrev pub server_digest : ServerEnd → Asked → List ℕ
server_digest server says = digest_of says.salt server.host server.nonce server.key

-- what a server answers to an item, and the PONG that it sends then
abbrev pub IsAnswer : ServerEnd → List ℕ → Ping → List ℕ → Type 0
IsAnswer server item Passed pong = (says : Asked) × IsPing item says × ShowsKey server says
    × (pong ≡ pong_bytes server.host (server_digest server says))
IsAnswer server item (Refused NotPing) pong = ((says : Asked) → IsPing item says → ⊥)
    × (pong ≡ refusal_bytes (codes "invalid ping"))
IsAnswer server item (Refused WrongDigest) pong = (says : Asked) × IsPing item says
    × (ShowsKey server says → ⊥)
    × (pong ≡ refusal_bytes (codes "shared_key mismatch"))
IsAnswer server item (Refused _) pong = ⊥

-- the digest by which the client shows that it has the key, to a server with this nonce
abbrev pub client_digest : ClientEnd → List ℕ → List ℕ
client_digest client nonce = digest_of client.salt client.host nonce client.key

-- the PONG's digest is the one that the client's key gives
abbrev pub KnowsKey : ClientEnd → Told → Type 0
KnowsKey client says =
    IsSomeAnd client.nonce (λ nonce. says.digest ≡ digest_of client.salt says.host nonce client.key)

-- the item is a PONG under this name
abbrev pub IsUnderName : List ℕ → List ℕ → Type 0
IsUnderName item host = (says : Told) × IsPong item says × (says.host ≡ host)

-- what a client that has sent its PING makes of an item
abbrev pub IsVerdict : ClientEnd → List ℕ → Result Unit HandshakeFault → Type 0
IsVerdict client item (Ok _) =
    (says : Told) × IsPong item says × (says.accepted ≡ true) × KnowsKey client says
IsVerdict client item (Err NotPong) = (says : Told) → IsPong item says → ⊥
IsVerdict client item (Err RefusedByServer) = (says : Told) × IsPong item says
    × (says.accepted ≡ false)
IsVerdict client item (Err WrongDigest) =
    (says : Told) × IsPong item says × (says.accepted ≡ true) × (KnowsKey client says → ⊥)
IsVerdict client item (Err _) = ⊥
