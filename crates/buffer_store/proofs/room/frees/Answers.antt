use Rattle.buffer_store.proofs.Freeing.{goes_on}
use Rattle.buffer_store.proofs.room.frees.Goals as goal

pub loop-chunk-preserved : goal.loop-chunk-preserved
loop-chunk-preserved g c = record {
  turns = (tt, tt);
  same = goes_on c.args.bytes c.loop-chunk.left c.freed_by.result c.saturating_sub-left.result _ _ c.loop-chunk.chunk-iterator _
      c.loop-chunk.invariant.same c.in-Some.ensures.steps c.freed_by.ensures c.saturating_sub-left.ensures;
}
