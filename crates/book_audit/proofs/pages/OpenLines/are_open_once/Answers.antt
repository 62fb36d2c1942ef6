use Rattle.std.proofs.Common.{subst, sym}
use Rattle.book_audit.specs.Audits.{AreOpenOnce, IsAgain, lines_of}
use Rattle.book_audit.proofs.pages.OpenLines.are_open_once.Goals as goal

pub returns-then-not-is_first : goal.returns-then-not-is_first
returns-then-not-is_first g c = c.loop-part.invariant.again (subst (λ ps. IsAgain c.args.self.now (lines_of c.args.leaf ps)) (sym c.in-Some.ensures.cases.0) c.if-not-is_first.ensures)

pub loop-part-preserved : goal.loop-part-preserved
loop-part-preserved g c = record {
  once = λ h. c.loop-part.invariant.once (subst (λ ps. AreOpenOnce c.args.self.now (lines_of c.args.leaf ps)) (sym c.in-Some.ensures.cases.0) (c.if-not-is_first.ensures.once h));
  again = λ h. c.loop-part.invariant.again (subst (λ ps. IsAgain c.args.self.now (lines_of c.args.leaf ps)) (sym c.in-Some.ensures.cases.0) (c.if-not-is_first.ensures.again h));
}
