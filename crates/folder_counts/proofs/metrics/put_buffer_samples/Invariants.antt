use Rattle.std.proofs.Common.{◌≡◌, ◌++◌, take}
use Rattle.std.specs.List.{flat_map}
use Rattle.folder_counts.specs.Metrics.{buffer_sample}
use Rattle.folder_counts.proofs.metrics.put_buffer_samples.Given as goal

abbrev pub invariant-loop-buffer : goal.invariant-loop-buffer
invariant-loop-buffer g l = l.text.items ≡ l.fn.text.items ++ flat_map (buffer_sample l.metric) (take l.buffer-index l.buffers)
