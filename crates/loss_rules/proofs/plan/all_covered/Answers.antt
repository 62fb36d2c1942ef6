use Rattle.std.proofs.Common.{refl, arith}
use Rattle.loss_rules.proofs.Seeks.{not_true, broken_all, all_more, all_of}
use Rattle.loss_rules.specs.Rules.{ReachesCoverLabel}
use Rattle.loss_rules.proofs.Matches.{covered_label, label_covered}
use Rattle.loss_rules.proofs.plan.all_covered.Goals as goal

pub returns-then-not-reaches_cover_label : goal.returns-then-not-reaches_cover_label
returns-then-not-reaches_cover_label g c = rw (← c.deref-pattern-items.ensures.value) (broken_all (ReachesCoverLabel c.args.net.now c.args.reaches.now c.args.label.now.place c.args.label.now.scope) c.deref-pattern-items.result.now c.loop-pattern.pattern-index c.pattern-item.result (omega arith) c.pattern-item.is (λ p. not_true ((rw c.matches_at-matches.ensures at c.if-not-reaches_cover_label.ensures).1 (label_covered c.args.net.now c.args.reaches.now c.args.label.now.place c.args.label.now.scope c.pattern-item.result p))))

pub loop-pattern-preserved : goal.loop-pattern-preserved
loop-pattern-preserved g c = all_more (ReachesCoverLabel c.args.net.now c.args.reaches.now c.args.label.now.place c.args.label.now.scope) c.deref-pattern-items.result.now c.loop-pattern.pattern-index c.pattern-item.result (omega arith) c.pattern-item.is c.loop-pattern.invariant (covered_label c.args.net.now c.args.reaches.now c.args.label.now.place c.args.label.now.scope c.pattern-item.result ((rw c.matches_at-matches.ensures at c.if-not-reaches_cover_label.ensures).0 refl))

pub returns : goal.returns
returns g c = rw (← c.deref-pattern-items.ensures.value) (all_of (ReachesCoverLabel c.args.net.now c.args.reaches.now c.args.label.now.place c.args.label.now.scope) c.deref-pattern-items.result.now c.loop-pattern.pattern-index (omega arith) c.loop-pattern.invariant)
