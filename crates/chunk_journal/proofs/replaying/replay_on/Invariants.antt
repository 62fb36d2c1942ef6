use Rattle.std.proofs.Common.{length}
use Rattle.chunk_journal.specs.Replaying.{SoFar}
use Rattle.chunk_journal.specs.Drafts.{place_of}
use Rattle.chunk_journal.proofs.replaying.replay_on.Given as goal

abbrev pub invariant-loop-behind : goal.invariant-loop-behind
invariant-loop-behind g l = SoFar l.bytes (place_of l.draft) l.rest

abbrev pub decreases-loop-behind : goal.decreases-loop-behind
decreases-loop-behind g l = length l.rest
