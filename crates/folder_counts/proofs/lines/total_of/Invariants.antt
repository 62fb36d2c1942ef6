use Rattle.std.proofs.Common.{◌≡◌, take}
use Rattle.folder_counts.specs.Lines.{total_of}
use Rattle.folder_counts.proofs.lines.total_of.Given as goal

abbrev pub invariant-loop-buffer : goal.invariant-loop-buffer
invariant-loop-buffer l = l.sum ≡ total_of (take l.buffer-index l.buffers)
