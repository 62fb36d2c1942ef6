use Rattle.forward_core.proofs.Replying.{no_ack, some_ack}
use Rattle.forward_core.proofs.replies.is_acknowledgement.Goals as goal

pub returns-in-Value-clause-right : goal.returns-in-Value-clause-right
returns-in-Value-clause-right c t = some_ack c.args.item.now c.in-Value.start c.in-Value.end c.in-Value.next c.requires c.in-Value.ensures.right

pub returns-in-Need-clause-only : goal.returns-in-Need-clause-only
returns-in-Need-clause-only c content a = absurd (c.in-Need.ensures.right.unended c.requires)

pub returns-in-Bad-clause-only : goal.returns-in-Bad-clause-only
returns-in-Bad-clause-only c content a = absurd (no_ack c.args.item.now content c.in-Bad.field-0 c.requires c.in-Bad.ensures.right a)
