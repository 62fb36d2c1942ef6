use Rattle.std.proofs.Common.{◌≡◌, ◌∷◌, Bool, true, false, not, MatchBool, IsTrue, ◌↔◌, sym, ◌∙◌}
use Rattle.std.specs.Prelude.{Any}
use Rattle.book_audit.specs.Naming.{AddsOne}
use Rattle.book_audit.specs.Audits.{IsAgain, is_of, lines_of, open_at}
use Rattle.book_audit.proofs.Again.{adds-named, adds-open, by-names, named-by, some-copied}
use Rattle.book_audit.proofs.pages.OpenLines.is_first.Goals as goal

pub returns : goal.returns
returns g c = by c.names.result c.names.ensures
  where
    of : is_of c.args.leaf c.args.part.now ≡ true
    of = sym c.is_of.ensures ∙ c.if-not-is_of.false

    by : (b : Bool) → IsTrue b ↔ Any (λ part. (is_of c.args.leaf part ≡ true) × (part.line ≡ c.args.part.now.line)) c.args.behind.now
        → MatchBool (not b) (AddsOne c.args.self.now c.args.leaf c.args.part.now c.args.behind.now) (IsAgain c.args.self.now (lines_of c.args.leaf (c.args.part.now ∷ c.args.behind.now)))
    by true e = adds-named c.args.self.now c.args.leaf c.args.part.now c.args.behind.now of (named-by c.args.leaf c.args.behind.now c.args.part.now.line (e.0 (λ i. true)))
    by false e = adds-open c.args.self.now c.args.leaf c.args.part.now c.args.behind.now of (some-copied c.get.result (open_at c.args.self.now c.args.part.now.line) c.get.ensures c.if-is_none.ensures) (λ h. no (e.1 (by-names c.args.leaf c.args.behind.now c.args.part.now.line h)))
      where
        no : IsTrue false → ⊥
        no h = absurd (cc h)
