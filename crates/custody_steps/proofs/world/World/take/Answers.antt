use Rattle.custody_steps.proofs.world.World.take.Goals as goal

pub returns-in-Send-clause-answer : goal.returns-in-Send-clause-answer
returns-in-Send-clause-answer g c = rw c.in-Send.is c.send.ensures.answer

pub returns-in-Begin-clause-answer : goal.returns-in-Begin-clause-answer
returns-in-Begin-clause-answer g c = rw c.in-Begin.is c.begin.ensures.answer

pub returns-in-Append-clause-answer : goal.returns-in-Append-clause-answer
returns-in-Append-clause-answer g c = rw c.in-Append.is c.append.ensures.answer

pub returns-in-Forward-clause-answer : goal.returns-in-Forward-clause-answer
returns-in-Forward-clause-answer g c = rw c.in-Forward.is c.forward.ensures.answer

pub returns-in-Part-clause-answer : goal.returns-in-Part-clause-answer
returns-in-Part-clause-answer g c = rw c.in-Part.is c.part.ensures.answer

pub returns-in-Ack-clause-answer : goal.returns-in-Ack-clause-answer
returns-in-Ack-clause-answer g c = rw c.in-Ack.is c.acknowledge.ensures.answer

pub returns-in-Abandon-clause-answer : goal.returns-in-Abandon-clause-answer
returns-in-Abandon-clause-answer g c = rw c.in-Abandon.is c.abandon.ensures.answer

pub returns-in-Foreign-clause-answer : goal.returns-in-Foreign-clause-answer
returns-in-Foreign-clause-answer g c = rw c.in-Foreign.is c.foreign.ensures.answer

pub returns-in-Enqueue-clause-answer : goal.returns-in-Enqueue-clause-answer
returns-in-Enqueue-clause-answer g c = rw c.in-Enqueue.is c.restage.ensures.answer

pub returns-in-Claim-clause-answer : goal.returns-in-Claim-clause-answer
returns-in-Claim-clause-answer g c = rw c.in-Claim.is c.restage-in-Claim.ensures.answer

pub returns-in-Back-clause-answer : goal.returns-in-Back-clause-answer
returns-in-Back-clause-answer g c = rw c.in-Back.is c.restage-in-Back.ensures.answer

pub returns-in-Seen-clause-answer : goal.returns-in-Seen-clause-answer
returns-in-Seen-clause-answer g c = rw c.in-Seen.is c.seen.ensures.answer

pub returns-in-Write-clause-answer : goal.returns-in-Write-clause-answer
returns-in-Write-clause-answer g c = rw c.in-Write.is c.write.ensures.answer

pub returns-in-Purge-clause-answer : goal.returns-in-Purge-clause-answer
returns-in-Purge-clause-answer g c = rw c.in-Purge.is c.purge.ensures.answer

pub returns-in-Done-clause-answer : goal.returns-in-Done-clause-answer
returns-in-Done-clause-answer g c = rw c.in-Done.is c.done.ensures.answer

pub returns-in-Discard-clause-answer : goal.returns-in-Discard-clause-answer
returns-in-Discard-clause-answer g c = rw c.in-Discard.is c.discard.ensures.answer

pub returns-in-Oldest-clause-answer : goal.returns-in-Oldest-clause-answer
returns-in-Oldest-clause-answer g c = rw c.in-Oldest.is c.drop_oldest.ensures.answer

pub returns-in-Restart-clause-answer : goal.returns-in-Restart-clause-answer
returns-in-Restart-clause-answer g c = rw c.in-Restart.is c.restart.ensures.answer
