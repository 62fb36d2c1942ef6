use Rattle.std.proofs.Common.{◌≡◌, take}
use Rattle.disk_files.specs.Table.{names_there}
use Rattle.disk_files.proofs.memory.names_of.Given as goal

abbrev pub invariant-loop-file : goal.invariant-loop-file
invariant-loop-file g l = l.names.items ≡ names_there (take l.file-index l.files.items)
