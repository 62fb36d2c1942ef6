use Rattle.disk_files.specs.Stopped.{StoppedTo}
use Rattle.disk_files.proofs.memory_file.stop_each.Given as goal

abbrev pub invariant-loop-file : goal.invariant-loop-file
invariant-loop-file g l = StoppedTo l.least l.file-index l.initial.file-items l.file-items
