use Rattle.std.proofs.Common.{ℕ, List, ◌+◌, ◌++◌, take, drop, MatchBool, sym, ap, subst, ◌∙◌, arith}
use Rattle.book_audit.specs.Stubs.{Left}
use Rattle.book_audit.specs.Naming.{AreNamed}
use Rattle.book_audit.specs.Audits.{IsAgain, lines_of, lines_named}
use Rattle.book_audit.proofs.Named.{stubs-more, stubs-split}
use Rattle.book_audit.proofs.Again.{again-more}
use Rattle.book_audit.proofs.auditing.Named.add_all.Goals as goal

pub returns-then-not-branch : goal.returns-then-not-branch
returns-then-not-branch g c =
    let leaf = c.args.leaf in
    let i = c.loop-stub.stub-index in
    let stubs : List Left = c.args.stubs.now in
    let d : Left = c.stub-item.result in
    let front : List ℕ = lines_named leaf (take i stubs) in
    let here : IsAgain c.args.pages.now (front ++ lines_of leaf c.deref.result.now) = subst (λ b. MatchBool b (AreNamed c.args.pages.now (front ++ lines_of leaf c.deref.result.now) c.add_parts.new.self.lines) (IsAgain c.args.pages.now (front ++ lines_of leaf c.deref.result.now))) c.if-not-branch.true (c.in_ok-add_parts.ensures front c.loop-stub.invariant.named) in
    let parts = c.deref.ensures.value ∙ ap (λ (stub : Left). stub.parts) (c.stub.view_is ∙ c.stub-item.is) in
    let there : IsAgain c.args.pages.now (lines_named leaf (take (i + 1) stubs)) = subst (IsAgain c.args.pages.now) (ap (λ ps. front ++ lines_of leaf ps) parts ∙ sym (stubs-more leaf stubs i d (omega arith))) here in
    subst (IsAgain c.args.pages.now) (sym (stubs-split leaf stubs (i + 1))) (again-more c.args.pages.now (lines_named leaf (take (i + 1) stubs)) (lines_named leaf (drop (i + 1) stubs)) there)

pub loop-stub-preserved : goal.loop-stub-preserved
loop-stub-preserved g c =
    let leaf = c.args.leaf in
    let i = c.loop-stub.stub-index in
    let stubs : List Left = c.args.stubs.now in
    let d : Left = c.stub-item.result in
    let front : List ℕ = lines_named leaf (take i stubs) in
    let lines = c.add_parts.new.self.lines in
    let here : AreNamed c.args.pages.now (front ++ lines_of leaf c.deref.result.now) lines = subst (λ b. MatchBool b (AreNamed c.args.pages.now (front ++ lines_of leaf c.deref.result.now) lines) (IsAgain c.args.pages.now (front ++ lines_of leaf c.deref.result.now))) c.if-not-branch.false (c.in_ok-add_parts.ensures front c.loop-stub.invariant.named) in
    let parts = c.deref.ensures.value ∙ ap (λ (stub : Left). stub.parts) (c.stub.view_is ∙ c.stub-item.is) in
    record { named = subst (λ (ns : List ℕ). AreNamed c.args.pages.now ns lines) (ap (λ ps. front ++ lines_of leaf ps) parts ∙ sym (stubs-more leaf stubs i d c.loop-stub-test.true)) here }
