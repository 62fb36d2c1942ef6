-- HELO, PING and PONG (Fluentd Forward Protocol v1, "Handshake Messages"), as they are read:
-- each text may be a str or a bin.
use Rattle.std.specs.Prelude.{ℕ, List, [], ◌∷◌, Bool, codes}
use Rattle.msgpack_bytes.specs.Item.{IsItemWithin}
use Rattle.msgpack_bytes.specs.Kinds.{IsText, IsBool}
use Rattle.msgpack_bytes.specs.Containers.{Pair, IsArrayOf, IsMapOf}
use Rattle.msgpack_bytes.specs.Names.{IsLastValue}

-- a str or a bin of any content
abbrev pub IsAnyText : List ℕ → Type 0
IsAnyText bytes = (content : List ℕ) × IsText bytes content

-- "HELO": its name, and the server's options, whose last "nonce" this is
pub record IsHelo (bytes nonce : List ℕ) : Type 0 where
  pub item : IsItemWithin bytes
  pub name : List ℕ
  pub options : List ℕ
  pub array : IsArrayOf IsItemWithin (name ∷ options ∷ []) bytes
  pub named : IsText name (codes "HELO")
  pub pairs : List Pair
  pub map : IsMapOf IsItemWithin pairs options
  pub value : List ℕ
  pub last : IsLastValue (codes "nonce") pairs value
  pub text : IsText value nonce

-- what a PING says: the client's host name, the salt that it chose,
-- and the digest that shows that it has the key
pub record Asked : Type 0 where
  pub host : List ℕ
  pub salt : List ℕ
  pub digest : List ℕ

-- "PING": its name, "client_hostname", "shared_key_salt", "shared_key_hexdigest", "username",
-- "password";
-- the last two may be any texts, since no user is looked at
pub record IsPing (bytes : List ℕ) (says : Asked) : Type 0 where
  pub item : IsItemWithin bytes
  pub name : List ℕ
  pub host : List ℕ
  pub salt : List ℕ
  pub digest : List ℕ
  pub user : List ℕ
  pub password : List ℕ
  pub array : IsArrayOf IsItemWithin (name ∷ host ∷ salt ∷ digest ∷ user ∷ password ∷ []) bytes
  pub named : IsText name (codes "PING")
  pub is_host : IsText host says.host
  pub is_salt : IsText salt says.salt
  pub is_digest : IsText digest says.digest
  pub is_user : IsAnyText user
  pub is_password : IsAnyText password

-- what a PONG says: whether the client is let in, why not, the server's host name,
-- and the digest that shows that it has the key
pub record Told : Type 0 where
  pub accepted : Bool
  pub reason : List ℕ
  pub host : List ℕ
  pub digest : List ℕ

-- "PONG": its name, "auth_result", "reason", "server_hostname", "shared_key_hexdigest"
pub record IsPong (bytes : List ℕ) (says : Told) : Type 0 where
  pub item : IsItemWithin bytes
  pub name : List ℕ
  pub result : List ℕ
  pub reason : List ℕ
  pub host : List ℕ
  pub digest : List ℕ
  pub array : IsArrayOf IsItemWithin (name ∷ result ∷ reason ∷ host ∷ digest ∷ []) bytes
  pub named : IsText name (codes "PONG")
  pub is_result : IsBool says.accepted result
  pub is_reason : IsText reason says.reason
  pub is_host : IsText host says.host
  pub is_digest : IsText digest says.digest
