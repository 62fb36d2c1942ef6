use Rattle.std.proofs.Common.{◌≡◌, ◌↔◌, subst}
use Rattle.std.specs.Prelude.{Err}
use Rattle.book_audit.specs.Audits.{AreInBook}
use Rattle.book_audit.specs.declared.fault.BookFault.TheVariants.{Stranger}
use Rattle.ack_receipt.specs.Books.{Book}
use Rattle.ack_receipt.specs.Terms.{Terms}
use Rattle.ack_receipt.proofs.locked.LockedBuffer.settle.Goals as goal

pub returns-clause-stranger : goal.returns-clause-stranger
returns-clause-stranger g c =
    subst (λ (t : Terms g.row.A.Denot). (c.settle.result ≡ Err Stranger) ↔ (AreInBook t.leaf c.args.self.now.pages c.args.stub.now → ⊥)) c.terms.view_is
    (subst (λ (b : Book g.row.D.Denot). (c.settle.result ≡ Err Stranger) ↔ (AreInBook c.terms.inside.leaf b.pages c.args.stub.now → ⊥)) c.self.view_is c.settle.ensures.stranger)
