use Rattle.std.proofs.Common.{◌≡◌, ◌++◌, take}
use Rattle.std.specs.List.{flat_map}
use Rattle.folder_counts.specs.Outputs.{output_sample}
use Rattle.folder_counts.proofs.outputs_metrics.put_samples.Given as goal

abbrev pub invariant-loop-output : goal.invariant-loop-output
invariant-loop-output g l = l.text.items ≡ l.fn.text.items ++ flat_map (output_sample l.metric) (take l.output-index l.outputs)
