use Rattle.std.proofs.Common.{ℕ, ◌<◌}
use Rattle.custody_store.specs.Branches.{buffers_of}
use Rattle.custody_store.specs.Searches.{IsDone}
use Rattle.custody_store.proofs.search.next_settled.Given as goal

abbrev pub invariant-loop-number : goal.invariant-loop-number
invariant-loop-number g l = (n : ℕ) → n < l.number → IsDone l.seen.net.now (buffers_of l.seen.places.now) l.seen.book.now.messages l.seen.entry.now l.kept n
