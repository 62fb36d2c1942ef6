use Rattle.msgpack_bytes.proofs.Walk.{Walk}
use Rattle.msgpack_bytes.proofs.names.last_value.Given as goal

abbrev pub invariant-loop : goal.invariant-loop
invariant-loop l = Walk l.name l.initial.rest l.rest l.count l.counter l.last
