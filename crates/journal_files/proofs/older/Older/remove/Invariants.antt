use Rattle.std.specs.BTreeMap.{btree_map_len}
use Rattle.journal_files.proofs.OlderFiles.{Removes}
use Rattle.journal_files.proofs.older.Older.remove.Given as goal

abbrev pub invariant-loop-file : goal.invariant-loop-file
invariant-loop-file g l = Removes g.D.Dir.is_honest g.D.Dir.history g.D.Dir.opened g.D.Dir.fault_count l.fn.self.path.now l.fn.self.number l.fn.self.files l.files l.fn.dir l.dir

abbrev pub decreases-loop-file : goal.decreases-loop-file
decreases-loop-file g l = btree_map_len l.files
