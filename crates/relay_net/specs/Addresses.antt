-- Addresses: a host, compared as a text, and a port.
use Rattle.std.specs.Prelude.{ℕ, List}

-- where a message is sent to
pub record Address : Type 0 where
  pub host : List ℕ
  pub port : ℕ
