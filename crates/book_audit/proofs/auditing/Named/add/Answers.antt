use Rattle.std.proofs.Common.{◌≡◌, ◌++◌, ◌∷◌, [], ℕ, List, Bool, true, false, not, MatchBool, subst, Contains}
use Rattle.std.specs.Ordering.{nat_cmp}
use Rattle.std.specs.BTreeSet.{contains}
use Rattle.book_audit.specs.Naming.{AreNamed}
use Rattle.book_audit.specs.Audits.{IsAgain, open_at}
use Rattle.book_audit.proofs.Again.{some-copied, named-again, set-more}
use Rattle.book_audit.proofs.auditing.Named.add.Goals as goal

pub returns : goal.returns
returns g c = λ named n. by named n c.in_ok-added.added c.in_ok-added.ensures.added
  where
    by : (named : List ℕ) → AreNamed c.args.pages.now named c.args.self.now.lines → (added : Bool) → added ≡ not (contains nat_cmp c.args.self.now.lines c.args.line)
        → MatchBool added (AreNamed c.args.pages.now (named ++ c.args.line ∷ []) c.insert.new.self) (IsAgain c.args.pages.now (named ++ c.args.line ∷ []))
    by named n true e = set-more c.args.pages.now named c.args.line c.args.self.now.lines c.insert.new.self n c.in_ok-added.ensures.updates.0 (was (contains nat_cmp c.args.self.now.lines c.args.line) e) (some-copied c.get.result (open_at c.args.pages.now c.args.line) c.get.ensures c.if-is_none.ensures)
      where
        was : (b : Bool) → true ≡ not b → b ≡ false
        was true e = e
        was false e = λ i. false
    by named n false e = named-again c.args.pages.now named c.args.line (subst (λ b. MatchBool b (Contains named c.args.line) (¬ Contains named c.args.line)) (was (contains nat_cmp c.args.self.now.lines c.args.line) e) (n.has c.args.line))
      where
        was : (b : Bool) → false ≡ not b → b ≡ true
        was true e = λ i. true
        was false e = e
