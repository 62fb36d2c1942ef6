use Rattle.std.proofs.Common.{refl}
use Rattle.msgpack_bytes.proofs.Standing.{begun_none, zeros_begin}
use Rattle.msgpack_bytes.proofs.scanner.Scanner.new.Goals as goal

pub invariant_of-result : goal.invariant_of-result
invariant_of-result c = (_, begun_none _ _ refl refl zeros_begin)

pub returns : goal.returns
returns c = begun_none _ _ refl refl zeros_begin
