-- What was read, without where it lies in memory.
use Rattle.std.specs.Prelude.{ℕ, ◌≡◌, List, ◌++◌}
use Rattle.msgpack_bytes.specs.Kinds.{IsText}
use Rattle.auth_handshake.specs.declared.read.PingItem.{PingItem}
use Rattle.auth_handshake.specs.declared.read.PongItem.{PongItem}
use Rattle.auth_handshake.specs.Messages.{Asked, Told}

-- what a PING item says, without where it lies in memory
abbrev pub asked : PingItem → Asked
asked item = record { host = item.host.now; salt = item.salt.now; digest = item.digest.now }

-- what a PONG item says, without where it lies in memory
abbrev pub told : PongItem → Told
told item = record {
  accepted = item.accepted;
  reason = item.reason.now;
  host = item.host.now;
  digest = item.digest.now;
}

-- the bytes are three texts of these contents, and what is behind them
pub record AreTexts (bytes x y z back : List ℕ) : Type 0 where
  pub first : List ℕ
  pub second : List ℕ
  pub third : List ℕ
  pub is_first : IsText first x
  pub is_second : IsText second y
  pub is_third : IsText third z
  pub whole : bytes ≡ first ++ (second ++ (third ++ back))
