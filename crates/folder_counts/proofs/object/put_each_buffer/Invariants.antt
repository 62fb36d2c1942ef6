use Rattle.std.proofs.Common.{fold, take}
use Rattle.folder_counts.specs.Object.{with_buffer, Becomes}
use Rattle.folder_counts.proofs.object.put_each_buffer.Given as goal

abbrev pub invariant-loop-buffer : goal.invariant-loop-buffer
invariant-loop-buffer g l = Becomes l.fn.writer l.writer (fold with_buffer l.fn.writer.tokens (take l.buffer-index l.buffers))
