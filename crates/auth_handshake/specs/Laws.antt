-- What holds of the messages of a handshake, apart from any call.
use Rattle.std.specs.Prelude.{ℕ, ◌≡◌, ◌≤◌, List, [], length, Some, Ok, true, false}
use Rattle.auth_handshake.specs.declared.answers.Ping.TheVariants.{Passed}
use Rattle.auth_handshake.specs.Messages.{IsHelo, IsPing, IsPong}
use Rattle.auth_handshake.specs.Written.{helo_bytes, ping_bytes, pong_bytes, refusal_bytes}
use Rattle.auth_handshake.specs.Ends.{longest_host, ServerEnd, ClientEnd, client_digest, IsAnswer, IsVerdict}

-- a nonce and a salt have sixteen bytes, and a digest is the hex of sixty-four
abbrev pub IsSixteen : List ℕ → Type 0
IsSixteen bytes = length bytes ≡ 16

-- a host name that a configuration may give
abbrev pub IsHost : List ℕ → Type 0
IsHost bytes = length bytes ≤ longest_host

-- the HELO that is written is one with its nonce
abbrev pub IsHeloRead : Type 0
IsHeloRead = (nonce : List ℕ) → IsSixteen nonce → IsHelo (helo_bytes nonce) nonce

-- the PING that is written is one with its host name, salt and digest
abbrev pub IsPingRead : Type 0
IsPingRead = (host salt digest : List ℕ) → IsHost host → IsSixteen salt → length digest ≡ 128
    → IsPing (ping_bytes host salt digest) (record { host = host; salt = salt; digest = digest })

-- the PONG that lets a client in is one with its host name and digest
abbrev pub IsPongRead : Type 0
IsPongRead = (host digest : List ℕ) → IsHost host → length digest ≡ 128
    → IsPong (pong_bytes host digest)
    (record { accepted = true; reason = []; host = host; digest = digest })

-- the PONG that refuses a client is one with its reason
abbrev pub IsRefusalRead : Type 0
IsRefusalRead = (reason : List ℕ) → IsHost reason
    → IsPong (refusal_bytes reason)
    (record { accepted = false; reason = reason; host = []; digest = [] })

-- a server and a client with one key let each other in
abbrev pub IsOneKeyEnough : Type 0
IsOneKeyEnough = (server : ServerEnd) (client : ClientEnd)
    → server.key ≡ client.key → client.nonce ≡ Some server.nonce
    → IsHost server.host → IsHost client.host → IsSixteen client.salt
    → (pong : List ℕ) × IsVerdict client pong (Ok tt)
    × IsAnswer server (ping_bytes client.host client.salt (client_digest client server.nonce))
    Passed pong
