use Rattle.std.proofs.Common.{◌≡◌, ◌^◌, ◌<◌, drop}
use Rattle.msgpack_bytes.specs.Run.{number}
use Rattle.msgpack_bytes.proofs.number.number_at.Given as goal

abbrev pub invariant-loop-k : goal.invariant-loop-k
invariant-loop-k l = record { value : l.value ≡ number l.k (drop l.at l.bytes); small : l.value < 256 ^ l.k }
