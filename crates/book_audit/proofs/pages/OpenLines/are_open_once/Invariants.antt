use Rattle.std.proofs.Common.{length}
use Rattle.book_audit.specs.Audits.{AreOpenOnce, IsAgain, lines_of}
use Rattle.book_audit.proofs.pages.OpenLines.are_open_once.Given as goal

abbrev pub invariant-loop-part : goal.invariant-loop-part
invariant-loop-part g l = record {
  once : AreOpenOnce l.self (lines_of l.leaf l.rest) → AreOpenOnce l.self (lines_of l.leaf l.parts);
  again : IsAgain l.self (lines_of l.leaf l.rest) → IsAgain l.self (lines_of l.leaf l.parts);
}

abbrev pub decreases-loop-part : goal.decreases-loop-part
decreases-loop-part g l = length l.rest
