-- What a connection is secured by, and what an end of a handshake is shown (Forward Protocol
-- Specification v1, "Handshake Messages").
use Rattle.std.specs.Prelude.{ℕ, ◌≡◌, ◌≤◌, ◌⊎◌, List, [], ◌++◌, length, Option, Some, None}
use Rattle.msgpack_bytes.specs.declared.answers.MsgFault.{MsgFault}
use Rattle.msgpack_bytes.specs.Item.{IsItemWithin}
use Rattle.msgpack_bytes.specs.Fault.{IsFaulty}
use Rattle.auth_handshake.specs.Ends.{longest_host}
use Rattle.forward_core.specs.declared.security.Security.{Security}

-- the host name, if there is one, is not too long
abbrev pub IsHosted : Option Security → Type 0
IsHosted None = Unit {0}
IsHosted (Some security) = length security.self_hostname.now ≤ longest_host

-- what the end of a handshake is shown: the item that the bytes begin with,
-- or all of them, where no item can begin so
abbrev pub IsShown : List ℕ → List ℕ → List ℕ → Type 0
IsShown bytes item more = (IsItemWithin item × (bytes ≡ item ++ more))
    ⊎ ((why : MsgFault) × IsFaulty why bytes × (item ≡ bytes) × (more ≡ []))
