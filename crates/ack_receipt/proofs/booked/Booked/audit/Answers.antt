use Rattle.std.proofs.Common.{subst}
use Rattle.std.specs.Prelude.{◌↔◌, All, OnOk, IsErrOf}
use Rattle.book_audit.specs.Audits.{Accounts, AreInBook, AreOpenOnce, HasStranger, IsAgain, IsLeftOut, lines_named}
use Rattle.book_audit.specs.declared.fault.BookFault.TheVariants as fault
use Rattle.book_audit.specs.declared.fault.AuditError.TheVariants as error
use Rattle.ack_receipt.specs.Books.{Book}
use Rattle.ack_receipt.proofs.booked.Booked.audit.Goals as goal

pub returns-clause-ok : goal.returns-clause-ok
returns-clause-ok g c = subst (λ (b : Book g.row.D.Denot). OnOk c.audit.result (Accounts c.args.leaf b.pages c.args.stubs.now)) c.self.view_is c.audit.ensures.ok

pub returns-clause-stranger : goal.returns-clause-stranger
returns-clause-stranger g c = subst (λ (b : Book g.row.D.Denot). IsErrOf c.audit.result (error.Fault fault.Stranger) ↔ HasStranger c.args.leaf b.pages c.args.stubs.now) c.self.view_is c.audit.ensures.stranger

pub returns-clause-double : goal.returns-clause-double
returns-clause-double g c = subst (λ (b : Book g.row.D.Denot). IsErrOf c.audit.result (error.Fault fault.Double) → All (AreInBook c.args.leaf b.pages) c.args.stubs.now × IsAgain b.pages (lines_named c.args.leaf c.args.stubs.now)) c.self.view_is c.audit.ensures.double

pub returns-clause-missing : goal.returns-clause-missing
returns-clause-missing g c = subst (λ (b : Book g.row.D.Denot). IsErrOf c.audit.result (error.Fault fault.Missing) → All (AreInBook c.args.leaf b.pages) c.args.stubs.now × AreOpenOnce b.pages (lines_named c.args.leaf c.args.stubs.now) × IsLeftOut b.pages (lines_named c.args.leaf c.args.stubs.now)) c.self.view_is c.audit.ensures.missing

pub returns-clause-memory : goal.returns-clause-memory
returns-clause-memory g c = subst (λ (b : Book g.row.D.Denot). IsErrOf c.audit.result error.Memory → All (AreInBook c.args.leaf b.pages) c.args.stubs.now) c.self.view_is c.audit.ensures.memory
