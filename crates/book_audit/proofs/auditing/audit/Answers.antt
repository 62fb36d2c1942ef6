use Rattle.std.proofs.Common.{MatchBool, subst}
use Rattle.book_audit.specs.Audits.{IsAgain, lines_named}
use Rattle.book_audit.specs.Naming.{AreNamed}
use Rattle.book_audit.proofs.Again.{all-named, left-out}
use Rattle.book_audit.proofs.Strangers.{double_differs, missing_differs, no_stranger, ok_differs}
use Rattle.book_audit.proofs.auditing.audit.Goals as goal

pub add_all-requires : goal.add_all-requires
add_all-requires g c = c.new-named.ensures c.args.pages.now

pub returns-then-not-are_all_among-clause-missing : goal.returns-then-not-are_all_among-clause-missing
returns-then-not-are_all_among-clause-missing g c = λ _.
    let named = lines_named c.args.leaf c.args.stubs.now in
    let n : AreNamed c.args.pages.now named c.add_all.new.self.lines = subst (λ b. MatchBool b (AreNamed c.args.pages.now named c.add_all.new.self.lines) (IsAgain c.args.pages.now named)) c.if-not-branch.false c.in_ok-add_all.ensures in
    (c.if-not-knows_all.ensures, n.once, left-out c.args.pages.now (lines_named c.args.leaf c.args.stubs.now) c.add_all.new.self.lines n c.if-not-are_all_among.ensures)

pub returns-clause-ok : goal.returns-clause-ok
returns-clause-ok g c =
    let named = lines_named c.args.leaf c.args.stubs.now in
    let n : AreNamed c.args.pages.now named c.add_all.new.self.lines = subst (λ b. MatchBool b (AreNamed c.args.pages.now named c.add_all.new.self.lines) (IsAgain c.args.pages.now named)) c.if-not-branch.false c.in_ok-add_all.ensures in
    record {
      known = c.if-not-knows_all.ensures;
      named = n.once;
      covered = all-named c.args.pages.now (lines_named c.args.leaf c.args.stubs.now) c.add_all.new.self.lines n c.if-not-are_all_among.ensures;
    }

pub returns-clause-stranger : goal.returns-clause-stranger
returns-clause-stranger g c = (λ no. absurd (ok_differs no), λ some. absurd (no_stranger c.args.leaf c.args.pages.now c.args.stubs.now c.if-not-knows_all.ensures some))

pub returns-then-not-are_all_among-clause-stranger : goal.returns-then-not-are_all_among-clause-stranger
returns-then-not-are_all_among-clause-stranger g c = (λ no. absurd (missing_differs no), λ some. absurd (no_stranger c.args.leaf c.args.pages.now c.args.stubs.now c.if-not-knows_all.ensures some))

pub returns-then-not-branch-clause-stranger : goal.returns-then-not-branch-clause-stranger
returns-then-not-branch-clause-stranger g c = (λ no. absurd (double_differs no), λ some. absurd (no_stranger c.args.leaf c.args.pages.now c.args.stubs.now c.if-not-knows_all.ensures some))
