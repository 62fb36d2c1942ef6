use Rattle.std.proofs.Common.{refl, arith}
use Rattle.loss_rules.proofs.Seeks.{not_true, broken_all, all_more, all_of}
use Rattle.loss_rules.specs.Rules.{IsCovered}
use Rattle.loss_rules.proofs.plan.is_match_covered.Goals as goal

pub returns-then-not-is_pattern_covered : goal.returns-then-not-is_pattern_covered
returns-then-not-is_pattern_covered g c = broken_all (IsCovered c.args.reaches.now c.args.at.place c.args.at.scope c.args.at.rule c.args.label.now) c.args.patterns.now c.loop-pattern.pattern-index c.pattern-item.result (omega arith) c.pattern-item.is (λ p. not_true (c.if-not-is_pattern_covered.ensures.1 p))

pub loop-pattern-preserved : goal.loop-pattern-preserved
loop-pattern-preserved g c = all_more (IsCovered c.args.reaches.now c.args.at.place c.args.at.scope c.args.at.rule c.args.label.now) c.args.patterns.now c.loop-pattern.pattern-index c.pattern-item.result (omega arith) c.pattern-item.is c.loop-pattern.invariant (c.if-not-is_pattern_covered.ensures.0 refl)

pub returns : goal.returns
returns g c = all_of (IsCovered c.args.reaches.now c.args.at.place c.args.at.scope c.args.at.rule c.args.label.now) c.args.patterns.now c.loop-pattern.pattern-index (omega arith) c.loop-pattern.invariant
