use Rattle.std.proofs.Common.{◌≡◌, ◌++◌, take}
use Rattle.std.specs.List.{flat_map}
use Rattle.folder_counts.specs.Lines.{sink_lines}
use Rattle.folder_counts.proofs.lines.put_sinks.Given as goal

abbrev pub invariant-loop-sink : goal.invariant-loop-sink
invariant-loop-sink g l = l.lines.items ≡ l.fn.lines.items ++ flat_map sink_lines (take l.sink-index l.sinks)
