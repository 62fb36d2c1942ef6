use Rattle.std.proofs.Common.{◌-◌, ◌<◌, ◌≤◌, length}
use Rattle.journal_files.proofs.Heard.{Feeds}
use Rattle.journal_files.proofs.outlining.feed_file.Given as goal

abbrev pub invariant-loop-done : goal.invariant-loop-done
invariant-loop-done g l = (l.done ≤ l.len) × (0 < l.len → 0 < length l.buffer.items) × Feeds g.D.Dir.is_honest g.D.Dir.history g.D.Dir.opened g.D.Dir.fault_count l.file l.len l.done l.outline l.fn.dir l.dir

abbrev pub decreases-loop-done : goal.decreases-loop-done
decreases-loop-done g l = l.len - l.done
