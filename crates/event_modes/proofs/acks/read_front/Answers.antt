use Rattle.event_modes.proofs.Acked.{at_front}
use Rattle.event_modes.proofs.acks.read_front.Goals as goal

pub returns-in-Some : goal.returns-in-Some
returns-in-Some c = at_front c.args.bytes.now c.split_at.result.0.now c.in-Some.start c.in-Some.end c.in-End.next c.in-End.ensures.right.1 c.split_at.ensures.front c.in-Some.ensures
