use Rattle.std.proofs.Common.{sym, subst, rules}
use Rattle.buffer_store.specs.Durability.{BeganWell}
use Rattle.ack_receipt.specs.Books.{Book}
use Rattle.ack_receipt.proofs.booked.Booked.body.Goals as goal

pub returns-clause-entries : goal.returns-clause-entries
returns-clause-entries g c = λ began.
    let entries = c.body.ensures.entries (subst (λ (b : Book g.row.D.Denot). BeganWell g.D.Dir.is_honest g.D.Dir.history b.buffer) (sym c.self.view_is) began) in
    search rules

pub returns-clause-undamaged : goal.returns-clause-undamaged
returns-clause-undamaged g c = λ began.
    c.body.ensures.undamaged (subst (λ (b : Book g.row.D.Denot). BeganWell g.D.Dir.is_honest g.D.Dir.history b.buffer) (sym c.self.view_is) began)
