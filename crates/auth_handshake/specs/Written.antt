-- The messages that are written, each byte of them (Fluentd Forward Protocol v1, "Handshake
-- Messages").
use Rattle.std.specs.Prelude.{ℕ, List, [], ◌∷◌, ◌++◌, length, codes, true, false}
use Rattle.std.specs.List.{concat, flat_map}
use Rattle.msgpack_bytes.specs.Spelling.{array_header_of, map_header_of, str_of, bin_of, bool_of}
use Rattle.msgpack_bytes.specs.Containers.{Pair, pair_bytes}

-- an array of these items
abbrev pub array_of : List (List ℕ) → List ℕ
array_of items = array_header_of (length items) ++ concat items

-- a map of these pairs
abbrev pub map_of : List Pair → List ℕ
map_of pairs = map_header_of (length pairs) ++ flat_map pair_bytes pairs

-- a pair whose key is this name
abbrev pub named : List ℕ → List ℕ → Pair
named name value = record { key = str_of name; value = value }

-- the options of a HELO: this nonce, no user authentication, and connections that may stay open
abbrev pub helo_options : (nonce : List ℕ) → List Pair
helo_options nonce =
    named (codes "nonce") (bin_of nonce) ∷ named (codes "auth")
    (str_of []) ∷ named (codes "keepalive") (bool_of true) ∷ []

-- ["HELO", {"nonce": the nonce, "auth": "", "keepalive": true}]
abbrev pub helo_bytes : (nonce : List ℕ) → List ℕ
helo_bytes nonce = array_of (str_of (codes "HELO") ∷ map_of (helo_options nonce) ∷ [])

-- ["PING", the client's host name, the salt, the digest, no user, no password]
abbrev pub ping_bytes : (host salt digest : List ℕ) → List ℕ
ping_bytes host salt digest =
    array_of (str_of (codes "PING") ∷ str_of host ∷ bin_of salt ∷ str_of digest ∷ str_of [] ∷ str_of
    [] ∷ [])

-- ["PONG", true, no reason, the server's host name, the digest]
abbrev pub pong_bytes : (host digest : List ℕ) → List ℕ
pong_bytes host digest =
    array_of (str_of (codes "PONG") ∷ bool_of true ∷ str_of [] ∷ str_of host ∷ str_of digest ∷ [])

-- ["PONG", false, the reason, no host name, no digest]
abbrev pub refusal_bytes : (reason : List ℕ) → List ℕ
refusal_bytes reason =
    array_of (str_of (codes "PONG") ∷ bool_of false ∷ str_of reason ∷ str_of [] ∷ str_of [] ∷ [])
