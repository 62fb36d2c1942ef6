use Rattle.std.proofs.Common.{ap, subst}
use Rattle.std.specs.Prelude.{IfOk}
use Rattle.ack_receipt.specs.Redeeming.{AreReceiptsOf}
use Rattle.ack_receipt.proofs.shared.SharedBuffer.redeem.Goals as goal

pub returns-clause-ok : goal.returns-clause-ok
returns-clause-ok g c = subst (λ leaf. IfOk c.redeem.result (λ receipts. AreReceiptsOf leaf c.args.pendings.items receipts.items)) (ap (λ t. t.leaf) c.self.view_is) c.redeem.ensures.ok
