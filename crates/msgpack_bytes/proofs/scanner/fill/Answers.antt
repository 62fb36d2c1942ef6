use Rattle.std.proofs.Common.{rules, arith}
use Rattle.msgpack_bytes.proofs.Alike.{filled_more}
use Rattle.msgpack_bytes.proofs.scanner.fill.Goals as goal

pub loop-k-preserved : goal.loop-k-preserved
loop-k-preserved c = record {
  size = search rules;
  from = omega arith;
  filled = λ part size begins. filled_more c.loop-k.front part c.args.follow.now c.args.came c.loop-k.k _ c.loop-k.invariant.size size c.loop-k.invariant.from (omega arith) c.byte.ensures.value (c.loop-k.invariant.filled part size begins);
}
