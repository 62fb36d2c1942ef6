-- Where sockets are, and where connections come from.
use Rattle.std.specs.Prelude.{ℕ, ◌≡◌, ◌≢◌, List}

-- a host, by its number or its name, and a port
pub record Endpoint : Type 0 where
  pub host : List ℕ
  pub port : ℕ

-- a socket that was bound there has this port: the one that was asked for, or any where that is 0
abbrev pub IsPortOf : (port : ℕ) → Endpoint → Type 0
IsPortOf port endpoint = endpoint.port ≢ 0 → port ≡ endpoint.port

-- where a connection comes from: it came in at the listener with this number, or it went to the
-- endpoint that was asked for
pub data Origin : Type 0 where
  CameAt : ℕ → Origin
  WentTo : Endpoint → Origin
