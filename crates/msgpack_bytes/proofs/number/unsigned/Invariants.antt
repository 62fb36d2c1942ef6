use Rattle.std.proofs.Common.{◌≡◌, ◌^◌, ◌<◌}
use Rattle.msgpack_bytes.specs.Run.{number}
use Rattle.msgpack_bytes.proofs.number.unsigned.Given as goal

abbrev pub invariant-loop-byte : goal.invariant-loop-byte
invariant-loop-byte l = record { value : l.value ≡ number l.byte-index l.bytes; small : l.value < 256 ^ l.byte-index }
