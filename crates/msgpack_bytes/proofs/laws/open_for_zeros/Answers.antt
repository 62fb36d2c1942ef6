use Rattle.msgpack_bytes.proofs.Lawful.{open_for_zeros}
use Rattle.msgpack_bytes.proofs.laws.open_for_zeros.Goals as goal

pub returns : goal.returns
returns c = open_for_zeros
