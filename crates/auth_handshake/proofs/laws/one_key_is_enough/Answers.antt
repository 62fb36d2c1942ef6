use Rattle.auth_handshake.proofs.OneKey.{one_key}
use Rattle.auth_handshake.proofs.laws.one_key_is_enough.Goals as goal

pub returns : goal.returns
returns c = one_key
