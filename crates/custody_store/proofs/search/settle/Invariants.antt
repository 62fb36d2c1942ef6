use Rattle.std.proofs.Common.{◌-◌, ◌^◌, vec_len}
use Rattle.custody_store.specs.Branches.{buffers_of}
use Rattle.custody_store.specs.Searches.{AreSettled, IsNext}
use Rattle.custody_store.proofs.search.settle.Given as goal

abbrev pub invariant-loop-next : goal.invariant-loop-next
invariant-loop-next g l = AreSettled l.seen.net.now (buffers_of l.seen.places.now) l.seen.book.now.messages l.seen.entry.now l.kept.items × IsNext l.seen.net.now (buffers_of l.seen.places.now) l.seen.book.now.messages l.seen.entry.now l.kept.items l.next

abbrev pub decreases-loop-next : goal.decreases-loop-next
decreases-loop-next g l = 2 ^ 64 - vec_len l.kept
