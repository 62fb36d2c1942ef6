use Rattle.std.proofs.Common.{fold, take}
use Rattle.folder_counts.specs.Object.{Becomes}
use Rattle.folder_counts.specs.Outputs.{with_output}
use Rattle.folder_counts.proofs.outputs_object.put_each_output.Given as goal

abbrev pub invariant-loop-output : goal.invariant-loop-output
invariant-loop-output g l = Becomes l.fn.writer l.writer (fold (with_output l.buffers) l.fn.writer.tokens (take l.output-index l.outputs))
