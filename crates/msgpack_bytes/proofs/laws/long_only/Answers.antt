use Rattle.msgpack_bytes.proofs.Lawful.{long_only}
use Rattle.msgpack_bytes.proofs.laws.long_only.Goals as goal

pub returns : goal.returns
returns c = long_only
