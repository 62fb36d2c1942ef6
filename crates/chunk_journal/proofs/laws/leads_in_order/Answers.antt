use Rattle.chunk_journal.proofs.Ordering.{tells_in_order, leads_in_order}
use Rattle.chunk_journal.proofs.laws.leads_in_order.Goals as goal

pub returns-clause-before : goal.returns-clause-before
returns-clause-before c = tells_in_order

pub returns-clause-behind : goal.returns-clause-behind
returns-clause-behind c = leads_in_order
