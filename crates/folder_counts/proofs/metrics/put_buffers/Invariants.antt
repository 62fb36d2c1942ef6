use Rattle.std.proofs.Common.{◌≡◌, ◌++◌, take}
use Rattle.std.specs.List.{flat_map}
use Rattle.folder_counts.specs.Metrics.{buffer_family}
use Rattle.folder_counts.proofs.metrics.put_buffers.Given as goal

abbrev pub invariant-loop-metric : goal.invariant-loop-metric
invariant-loop-metric g l = l.text.items ≡ l.fn.text.items ++ flat_map (λ metric. buffer_family metric l.buffers) (take l.metric-index l.metrics)
