use Rattle.std.proofs.Common.{◌≡◌, ◌++◌, take}
use Rattle.std.specs.List.{flat_map}
use Rattle.folder_counts.specs.Lines.{buffer_line}
use Rattle.folder_counts.proofs.lines.put_buffers.Given as goal

abbrev pub invariant-loop-buffer : goal.invariant-loop-buffer
invariant-loop-buffer g l = l.lines.items ≡ l.fn.lines.items ++ flat_map buffer_line (take l.buffer-index l.buffers)
