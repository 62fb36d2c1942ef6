-- A host name and a key, as a configuration has them, and as a handshake shows them.
use Rattle.std.specs.Prelude.{ℕ, ◌<◌, List, length, Option, Some, None, IsSomeAnd, option_map, string_bytes}
use Rattle.auth_handshake.specs.Ends.{longest_host}
use Rattle.relay_conf.specs.declared.relay.Security.{Security as Secret}
use Rattle.forward_core.specs.declared.security.Security.{Security}

-- a host name and a key
pub record Credentials : Type 0 where
  pub host : List ℕ
  pub key : List ℕ

-- those of a configuration, if it has some
abbrev pub credentials_of : {A : Type 0} → Option (Secret A) → Option Credentials
credentials_of secret =
    option_map (λ one.
    record { host = string_bytes one.self_hostname; key = string_bytes one.shared_key }) secret

-- those that a handshake shows, if there is one
abbrev pub credentials_in : Option Security → Option Credentials
credentials_in None = None
credentials_in (Some security) =
    Some (record { host = security.self_hostname.now; key = security.shared_key.now })

-- there is a host name, which is longer than a handshake may show
abbrev pub HasLongName : Option Credentials → Type 0
HasLongName credentials = IsSomeAnd credentials (λ one. longest_host < length one.host)
