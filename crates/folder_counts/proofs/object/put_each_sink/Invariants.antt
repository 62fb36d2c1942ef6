use Rattle.std.proofs.Common.{fold, take}
use Rattle.folder_counts.specs.Object.{with_sink, Becomes}
use Rattle.folder_counts.proofs.object.put_each_sink.Given as goal

abbrev pub invariant-loop-sink : goal.invariant-loop-sink
invariant-loop-sink g l = Becomes l.fn.writer l.writer (fold with_sink l.fn.writer.tokens (take l.sink-index l.sinks))
