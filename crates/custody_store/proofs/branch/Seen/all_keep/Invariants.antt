use Rattle.std.proofs.Common.{ℕ, ◌<◌, get_or}
use Rattle.custody_store.specs.Branches.{buffers_of}
use Rattle.custody_store.specs.Searches.{KeepsSoFar}
use Rattle.custody_store.proofs.branch.Seen.all_keep.Given as goal

abbrev pub invariant-loop-leaf : goal.invariant-loop-leaf
invariant-loop-leaf g l = (k : ℕ) (d : _) → k < l.leaf-index → KeepsSoFar (buffers_of l.self.places.now) l.self.book.now.messages l.self.entry.now l.kept l.place (get_or l.leaves k d).0 l.tag
