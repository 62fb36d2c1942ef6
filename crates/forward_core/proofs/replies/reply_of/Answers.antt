use Rattle.std.proofs.lemmas.Bool.{both_ways}
use Rattle.forward_core.proofs.replies.reply_of.Goals as goal

pub returns-else-is_acknowledgement : goal.returns-else-is_acknowledgement
returns-else-is_acknowledgement g c = (
  (λ nil. both_ways c.is_nil.result c.if-is_nil.false (c.is_nil.ensures.1 nil)),
  (λ content a. both_ways c.is_acknowledgement.result c.if-is_acknowledgement.false (c.is_acknowledgement.ensures.only content a)),
)
