use Rattle.std.proofs.Common.{◌≡◌, ◌++◌, take}
use Rattle.std.specs.List.{flat_map}
use Rattle.folder_counts.specs.Metrics.{sink_sample}
use Rattle.folder_counts.proofs.metrics.put_sink_samples.Given as goal

abbrev pub invariant-loop-sink : goal.invariant-loop-sink
invariant-loop-sink g l = l.text.items ≡ l.fn.text.items ++ flat_map (sink_sample l.metric) (take l.sink-index l.sinks)
