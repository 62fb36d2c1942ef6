use Rattle.std.proofs.Common.{◌≡◌, ◌++◌, take}
use Rattle.std.specs.List.{flat_map}
use Rattle.folder_counts.specs.Lines.{over_lines}
use Rattle.folder_counts.proofs.lines.put_overs.Given as goal

abbrev pub invariant-loop-buffer : goal.invariant-loop-buffer
invariant-loop-buffer g l = l.lines.items ≡ l.fn.lines.items ++ flat_map (over_lines l.limits) (take l.buffer-index l.buffers)
