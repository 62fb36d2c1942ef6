use Rattle.std.proofs.Common.{◌≡◌, ◌++◌, take}
use Rattle.std.specs.List.{flat_map}
use Rattle.folder_counts.specs.Metrics.{sink_family}
use Rattle.folder_counts.proofs.metrics.put_sinks.Given as goal

abbrev pub invariant-loop-metric : goal.invariant-loop-metric
invariant-loop-metric g l = l.text.items ≡ l.fn.text.items ++ flat_map (λ metric. sink_family metric l.sinks) (take l.metric-index l.metrics)
