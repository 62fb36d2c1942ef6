-- The digests of the handshake (Fluentd Forward Protocol v1, "Handshake Messages").
use Rattle.std.specs.Prelude.{ℕ, List, ◌++◌}
use Rattle.sha2.specs.Sha512.{sha512}
use Rattle.hex.specs.Hex.{encode_lower}

-- "shared_key_hexdigest": the lower-case hex of SHA-512 of the salt, the host name, the nonce and
-- the shared key joined
abbrev pub digest_of : (salt host nonce key : List ℕ) → List ℕ
digest_of salt host nonce key = encode_lower (sha512 (salt ++ host ++ nonce ++ key))
