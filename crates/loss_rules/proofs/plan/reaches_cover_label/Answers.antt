use Rattle.std.proofs.Common.{◌≡◌, ◌↔◌, ◌+◌, ◌<◌, ℕ, All, IsTrue, Some, slice_get, refl, ◌∙◌, arith}
use Rattle.std.proofs.lemmas.Option.{slice_get_read}
use Rattle.loss_rules.proofs.Seeks.{not_true}
use Rattle.relay_conf.specs.declared.relay.MatchRule.{MatchRule}
use Rattle.loss_rules.specs.Rules.{IsCovered}
use Rattle.loss_rules.proofs.Matches.{more_covered, more_uncovered, passed_more, fits_here, fits_nowhere}
use Rattle.loss_rules.proofs.plan.reaches_cover_label.Goals as goal
use Rattle.loss_rules.proofs.plan.reaches_cover_label.Goals.{then-covered, else-covered}

pub loop-rule-preserved : goal.loop-rule-preserved
loop-rule-preserved g c =
    let iff : IsTrue c.if-covered.covered ↔ ((before : ℕ) (other : MatchRule g.row.A.Denot) → before < c.loop-rule.rule + 1 → slice_get c.args.matches.now before ≡ Some other → All (IsCovered c.args.reaches.now c.args.at.place c.args.at.scope before c.args.pattern.now) other.patterns.items) = elim c.if-covered.branch [
      | then-covered w ↦ rw w.covered-is (more_covered c.args.matches.now c.args.reaches.now c.args.at.place c.args.at.scope c.args.pattern.now c.loop-rule.rule c.index-matches-rule.result c.loop-rule.covered w.is_match_covered-covered.result (slice_get_read c.args.matches.now _ c.loop-rule.rule c.index-matches-rule.result refl (omega arith) c.index-matches-rule.is) c.loop-rule.invariant w.if-covered.true (rw w.deref.ensures.value at w.is_match_covered-covered.ensures))
      | else-covered w ↦ more_uncovered c.args.matches.now c.args.reaches.now c.args.at.place c.args.at.scope c.args.pattern.now c.loop-rule.rule c.loop-rule.covered c.if-covered.covered c.loop-rule.invariant w.if-covered.false (w.covered-is ∙ w.if-covered.false)
    ] in
    passed_more c.args.matches.now c.args.reaches.now c.args.at.place c.args.at.scope c.args.pattern.now c.loop-rule.rule c.index-matches-rule.result c.if-covered.covered (slice_get_read c.args.matches.now _ c.loop-rule.rule c.index-matches-rule.result refl (omega arith) c.index-matches-rule.is) c.loop-rule.invariant.fits_none (λ p. not_true ((rw c.deref-in-loop-rule.ensures.value at c.if-fits_any.ensures).1 p)) iff

pub returns-then-fits_any : goal.returns-then-fits_any
returns-then-fits_any g c =
    let iff : IsTrue c.if-covered.covered ↔ ((before : ℕ) (other : MatchRule g.row.A.Denot) → before < c.loop-rule.rule + 1 → slice_get c.args.matches.now before ≡ Some other → All (IsCovered c.args.reaches.now c.args.at.place c.args.at.scope before c.args.pattern.now) other.patterns.items) = elim c.if-covered.branch [
      | then-covered w ↦ rw w.covered-is (more_covered c.args.matches.now c.args.reaches.now c.args.at.place c.args.at.scope c.args.pattern.now c.loop-rule.rule c.index-matches-rule.result c.loop-rule.covered w.is_match_covered-covered.result (slice_get_read c.args.matches.now _ c.loop-rule.rule c.index-matches-rule.result refl (omega arith) c.index-matches-rule.is) c.loop-rule.invariant w.if-covered.true (rw w.deref.ensures.value at w.is_match_covered-covered.ensures))
      | else-covered w ↦ more_uncovered c.args.matches.now c.args.reaches.now c.args.at.place c.args.at.scope c.args.pattern.now c.loop-rule.rule c.loop-rule.covered c.if-covered.covered c.loop-rule.invariant w.if-covered.false (w.covered-is ∙ w.if-covered.false)
    ] in
    fits_here c.args.matches.now c.args.reaches.now c.args.at.place c.args.at.scope c.args.pattern.now c.loop-rule.rule c.index-matches-rule.result c.if-covered.covered (slice_get_read c.args.matches.now _ c.loop-rule.rule c.index-matches-rule.result refl (omega arith) c.index-matches-rule.is) c.loop-rule.invariant.fits_none ((rw c.deref-in-loop-rule.ensures.value at c.if-fits_any.ensures).0 refl) iff

pub returns : goal.returns
returns g c = (λ _. fits_nowhere c.args.matches.now c.args.reaches.now c.args.at.place c.args.at.scope c.args.pattern.now c.loop-rule.rule (omega arith) c.loop-rule.invariant.fits_none, λ _. refl)
