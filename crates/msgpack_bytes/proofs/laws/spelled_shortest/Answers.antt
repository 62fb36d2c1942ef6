use Rattle.msgpack_bytes.proofs.Shortest.{uint_spelled, str_spelled, bin_spelled, array_spelled, map_spelled, bool_spelled}
use Rattle.msgpack_bytes.proofs.laws.spelled_shortest.Goals as goal

pub returns-clause-uint : goal.returns-clause-uint
returns-clause-uint c = uint_spelled

pub returns-clause-str : goal.returns-clause-str
returns-clause-str c = str_spelled

pub returns-clause-bin : goal.returns-clause-bin
returns-clause-bin c = bin_spelled

pub returns-clause-array : goal.returns-clause-array
returns-clause-array c = array_spelled

pub returns-clause-map : goal.returns-clause-map
returns-clause-map c = map_spelled

pub returns-clause-bool : goal.returns-clause-bool
returns-clause-bool c = bool_spelled
