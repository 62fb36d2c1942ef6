-- A server and a client with one key.
use Rattle.std.proofs.Common.{ℕ, ◌≡◌, List, [], ◌++◌, length, refl, ap, sym, subst, arith, true, Option, IsSomeAnd}
use Rattle.sha2.specs.Sha512.{sha512}
use Rattle.sha2.proofs.Facts512.{length-sha512}
use Rattle.hex.specs.Hex.{lower_digits}
use Rattle.hex.proofs.HexLemmas.{length-encode_with}
use Rattle.auth_handshake.specs.Digest.{digest_of}
use Rattle.auth_handshake.specs.Messages.{Asked, Told}
use Rattle.auth_handshake.specs.Written.{pong_bytes}
use Rattle.auth_handshake.specs.Ends.{ServerEnd, ClientEnd, ShowsKey, KnowsKey, server_digest, client_digest}
use Rattle.auth_handshake.specs.Laws.{IsOneKeyEnough}
use Rattle.auth_handshake.proofs.Whole.{ping_is, pong_is}

digest_length : (salt host nonce key : List ℕ) → length (digest_of salt host nonce key) ≡ 128
digest_length salt host nonce key =
    omega (arith, length-encode_with lower_digits (sha512 (salt ++ host ++ nonce ++ key)), length-sha512 (salt ++ host ++ nonce ++ key))

asked_by : ClientEnd → List ℕ → Asked
asked_by client nonce = record { host = client.host; salt = client.salt; digest = client_digest client nonce }

told_by : ServerEnd → Asked → Told
told_by server says = record { accepted = true; reason = []; host = server.host; digest = server_digest server says }

pub one_key : IsOneKeyEnough
unfolding asked_by told_by
one_key server client k n server_host client_host salt =
    let says = asked_by client server.nonce in
    let shows : ShowsKey server says = ap (λ (x : List ℕ). digest_of client.salt client.host server.nonce x) (sym k) in
    let digest = digest_of client.salt server.host server.nonce in
    let knows : KnowsKey client (told_by server says) =
    subst (λ (nonce : Option (List ℕ)). IsSomeAnd nonce (λ x. digest server.key ≡ digest_of client.salt server.host x client.key)) (sym n) (ap (λ (x : List ℕ). digest x) k) in (
      pong_bytes server.host (server_digest server says),
      (told_by server says, pong_is server.host (server_digest server says) server_host (digest_length client.salt server.host server.nonce server.key), refl, knows),
      (says, ping_is client.host client.salt (client_digest client server.nonce) client_host salt (digest_length client.salt client.host server.nonce client.key), shows, refl),
    )
