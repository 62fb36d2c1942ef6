use Rattle.std.proofs.Common.{sym, subst, rules}
use Rattle.buffer_store.specs.Durability.{BeganWell}
use Rattle.ack_receipt.specs.Books.{Book}
use Rattle.ack_receipt.proofs.booked.Booked.renew.Goals as goal

pub returns-in_err-renew-clause-undamaged : goal.returns-in_err-renew-clause-undamaged
returns-in_err-renew-clause-undamaged g c = λ began.
    let undamaged = c.in_err-renew.ensures.undamaged (subst (λ (b : Book g.row.D.Denot). BeganWell g.D.Dir.is_honest g.D.Dir.history b.buffer) (sym c.self.view_is) began) in
    search rules
