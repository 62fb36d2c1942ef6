use Rattle.std.proofs.Common.{fold, take}
use Rattle.folder_counts.specs.Object.{with_over, Becomes}
use Rattle.folder_counts.proofs.object.put_each_over.Given as goal

abbrev pub invariant-loop-buffer : goal.invariant-loop-buffer
invariant-loop-buffer g l = Becomes l.fn.writer l.writer (fold (with_over l.limits) l.fn.writer.tokens (take l.buffer-index l.buffers))
