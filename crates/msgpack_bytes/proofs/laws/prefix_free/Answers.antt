use Rattle.msgpack_bytes.proofs.Lawful.{prefix_free, one_front}
use Rattle.msgpack_bytes.proofs.laws.prefix_free.Goals as goal

pub returns-clause-free : goal.returns-clause-free
returns-clause-free c = prefix_free

pub returns-clause-one_front : goal.returns-clause-one_front
returns-clause-one_front c = one_front
