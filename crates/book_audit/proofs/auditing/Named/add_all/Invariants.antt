use Rattle.std.proofs.Common.{take}
use Rattle.book_audit.specs.Audits.{lines_named}
use Rattle.book_audit.specs.Naming.{AreNamed}
use Rattle.book_audit.proofs.auditing.Named.add_all.Given as goal

abbrev pub invariant-loop-stub : goal.invariant-loop-stub
invariant-loop-stub g l = record {
  named : AreNamed l.fn.pages (lines_named l.leaf (take l.stub-index l.stubs)) l.self.lines;
}
