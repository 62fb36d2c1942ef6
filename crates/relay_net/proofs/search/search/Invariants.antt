use Rattle.std.proofs.Common.{◌≤◌, ◌-◌, ◌^◌, length, vec_len}
use Rattle.relay_net.proofs.Reaching.{IsSearched}
use Rattle.relay_net.proofs.search.search.Given as goal
use Rattle.tag_pattern.specs.Parts.{most_tag_bytes}

abbrev pub invariant-loop-next : goal.invariant-loop-next
invariant-loop-next g l = (l.next ≤ vec_len l.found) × (length l.wanted ≤ most_tag_bytes) × IsSearched l.net (record { host = l.host; port = l.port }) l.tag l.wanted l.found.items l.next

abbrev pub decreases-loop-next : goal.decreases-loop-next
decreases-loop-next g l = 2 ^ 64 - l.next
