use Rattle.std.proofs.Common.{◌≡◌, ◌++◌, take}
use Rattle.std.specs.List.{flat_map}
use Rattle.folder_counts.specs.Outputs.{output_family}
use Rattle.folder_counts.proofs.outputs_metrics.put_families.Given as goal

abbrev pub invariant-loop-metric : goal.invariant-loop-metric
invariant-loop-metric g l = l.text.items ≡ l.fn.text.items ++ flat_map (λ metric. output_family metric l.outputs) (take l.metric-index l.metrics)
