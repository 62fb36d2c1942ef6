use Rattle.msgpack_bytes.proofs.Lawful.{items_read, open_read, reserved_read, deep_read}
use Rattle.msgpack_bytes.proofs.laws.read_by_recursion.Goals as goal

pub returns-clause-items : goal.returns-clause-items
returns-clause-items c = items_read

pub returns-clause-open : goal.returns-clause-open
returns-clause-open c = open_read

pub returns-clause-reserved : goal.returns-clause-reserved
returns-clause-reserved c = reserved_read

pub returns-clause-deep : goal.returns-clause-deep
returns-clause-deep c = deep_read
