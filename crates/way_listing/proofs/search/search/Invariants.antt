use Rattle.std.proofs.Common.{◌≤◌, ◌-◌, vec_len}
use Rattle.way_listing.proofs.Searching.{IsSearched}
use Rattle.way_listing.proofs.search.search.Given as goal

abbrev pub invariant-loop-next : goal.invariant-loop-next
invariant-loop-next g l = (l.next ≤ vec_len l.sent) × IsSearched l.net l.fn.starts.items l.sent.items l.next

abbrev pub decreases-loop-next : goal.decreases-loop-next
decreases-loop-next g l = 10000 - l.next
