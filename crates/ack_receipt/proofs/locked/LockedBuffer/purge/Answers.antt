use Rattle.std.proofs.Common.{sym, subst, rules}
use Rattle.ack_receipt.specs.Books.{Book}
use Rattle.ack_receipt.specs.Evidences.{CanCompare}
use Rattle.ack_receipt.proofs.locked.LockedBuffer.purge.Goals as goal

pub returns-clause-serves : goal.returns-clause-serves
returns-clause-serves g c = λ can.
    let serves = c.purge.ensures.serves (subst (λ (b : Book g.row.D.Denot). CanCompare g.D.Dir.is_honest g.D.Dir.history b.buffer c.args.evidence) (sym c.self.view_is) can) in
    search rules
