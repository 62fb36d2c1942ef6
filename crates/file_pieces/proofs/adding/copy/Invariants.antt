use Rattle.std.proofs.Common.{◌-◌, ◌≤◌, Ok}
use Rattle.file_pieces.proofs.Steps.{Copied}
use Rattle.file_pieces.proofs.adding.copy.Given as goal

abbrev pub invariant-loop-done : goal.invariant-loop-done
invariant-loop-done g l = (l.done ≤ l.count) × Copied g.D.Dir.is_honest g.D.Dir.history g.D.Dir.opened g.D.Dir.bytes_left g.D.Dir.fault_count l.from l.to l.at l.count l.fn.dir l.dir l.done (Ok (tt {0}))

abbrev pub decreases-loop-done : goal.decreases-loop-done
decreases-loop-done g l = l.count - l.done
