use Rattle.std.specs.BTreeSet.{btree_set_len}
use Rattle.journal_files.proofs.OlderFiles.{Collects}
use Rattle.journal_files.proofs.older.Older.open.Given as goal

abbrev pub invariant-loop-next : goal.invariant-loop-next
invariant-loop-next g l = Collects g.D.Dir.is_honest g.D.Dir.history g.D.Dir.opened g.D.Dir.fault_count l.path l.number l.rest l.files l.fn.dir l.dir

abbrev pub decreases-loop-next : goal.decreases-loop-next
decreases-loop-next g l = btree_set_len l.rest
