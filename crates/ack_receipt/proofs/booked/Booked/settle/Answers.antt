use Rattle.std.proofs.Common.{◌≡◌, ap, subst, ◌∙◌}
use Rattle.std.specs.Prelude.{◌↔◌, Err, OnOk}
use Rattle.std.proofs.lemmas.Result.{on_err_weaker}
use Rattle.book_audit.specs.Audits.{AreInBook, Closes, IsAgain, Pages, Settles, lines_of}
use Rattle.book_audit.specs.declared.fault.BookFault.TheVariants as fault
use Rattle.ack_receipt.specs.Books.{Book, book_of}
use Rattle.ack_receipt.proofs.Sound.{sound_settled}
use Rattle.ack_receipt.proofs.booked.Booked.settle.Goals as goal

pub invariant_of-self : goal.invariant_of-self
invariant_of-self g c =
    let i = c.self.inside in
    let e = c.settle.ensures in (
      c.self.invariant.0,
      c.self.invariant.1,
      sound_settled i.buffer i.past.first i.past.appends i.past.lines i.lines i.waiting.entries i.past.synced i.past.removed c.self.invariant.2 c.settle.result (lines_of c.args.leaf c.args.stub.now.parts) c.settle.new.self e.closed e.same e.room,
    )

pub returns-clause-ok : goal.returns-clause-ok
returns-clause-ok g c = subst (λ (b : Book g.row.D.Denot). OnOk c.settle.result (Settles c.args.leaf b.pages c.args.stub.now)) c.self.view_is c.settle.ensures.ok

pub returns-clause-closed : goal.returns-clause-closed
returns-clause-closed g c = subst (λ (b : Book g.row.D.Denot). OnOk c.settle.result (Closes (lines_of c.args.leaf c.args.stub.now.parts) b.pages c.settle.new.self)) c.self.view_is c.settle.ensures.closed

pub returns-clause-stranger : goal.returns-clause-stranger
returns-clause-stranger g c = subst (λ (b : Book g.row.D.Denot). ((c.settle.result ≡ Err fault.Stranger) ↔ (¬ AreInBook c.args.leaf b.pages c.args.stub.now))) c.self.view_is c.settle.ensures.stranger

pub returns-clause-double : goal.returns-clause-double
returns-clause-double g c = subst (λ (b : Book g.row.D.Denot). c.settle.result ≡ Err fault.Double → AreInBook c.args.leaf b.pages c.args.stub.now × IsAgain b.pages (lines_of c.args.leaf c.args.stub.now.parts)) c.self.view_is c.settle.ensures.double

pub returns-clause-rest : goal.returns-clause-rest
returns-clause-rest g c = ap (λ (b : Book g.row.D.Denot). record b { pages = c.settle.new.self }) c.self.view_is

pub returns-clause-only : goal.returns-clause-only
returns-clause-only g c = c.settle.ensures.only

pub returns-clause-same : goal.returns-clause-same
returns-clause-same g c =
    let i = c.self.inside in
    on_err_weaker c.settle.result (λ same. ap (λ (p : Pages). book_of i.buffer i.past.first i.past.appends i.past.lines p i.waiting.entries i.past.synced i.past.removed) same ∙ c.self.view_is) c.settle.ensures.same
