use Rattle.std.specs.BTreeSet.{btree_set_len}
use Rattle.journal_files.proofs.Searched.{Searches}
use Rattle.journal_files.proofs.opening.search_folder.Given as goal

abbrev pub invariant-loop-number : goal.invariant-loop-number
invariant-loop-number g l = Searches g.D.Dir.is_honest g.D.Dir.history g.D.Dir.fault_count l.path l.rest l.fn.dir l.dir

abbrev pub decreases-loop-number : goal.decreases-loop-number
decreases-loop-number g l = btree_set_len l.rest
