use Rattle.std.proofs.Common.{◌≡◌, ◌++◌, take}
use Rattle.std.specs.List.{flat_map}
use Rattle.folder_counts.specs.Outputs.{output_line}
use Rattle.folder_counts.proofs.outputs_lines.put_outputs.Given as goal

abbrev pub invariant-loop-output : goal.invariant-loop-output
invariant-loop-output g l = l.lines.items ≡ l.fn.lines.items ++ flat_map (output_line l.buffers) (take l.output-index l.outputs)
